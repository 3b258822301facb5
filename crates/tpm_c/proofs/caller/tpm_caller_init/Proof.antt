-- `tpm_caller_init` meets its contract: the room is written, and what lies there is a caller that holds no session.
use Rattle.tpm_c.proofs.Steps.{◌≡◌, refl, id⊢, room_at}
use Rattle.tpm_c.proofs.Lending.{there, is_this, inits}
use Rattle.tpm_c.proofs.caller.CallerState.TheLaws.{the_row_laws}
use Rattle.tpm_c.proofs.caller.nothing.Met.{met}
use Rattle.tpm_c.specs.declared.caller.CallerState.TheVariants.{Spent}
use Rattle.tpm_c.specs.contracts.caller.CallerState.{the_row}
use Rattle.tpm_c.specs.contracts.caller.nothing as of
use Rattle.tpm_c.specs.contracts.caller.tpm_caller_init as f
use Rattle.tpm_c.proofs.caller.tpm_caller_init.Statement as stated
use Rattle.tpm_c.proofs.caller.tpm_caller_init.Code as code

pub tpm_caller_init_spec : {M : Type 1} → stated.statement M
tpm_caller_init_spec 𝓤 𝓛 𝓜 𝓡 wired =
    inits 𝓛 𝓜 𝓡 the_row refl (the_row_laws.lawful 𝓛) (f.clauses 𝓛 𝓜.mem 𝓡.returns) f.Key.name (code.unfolded 𝓤 𝓛.H 𝓜 𝓡 wired) (λ x. x ≡ Spent)
    (of.spec 𝓛 𝓜.mem 𝓡.returns) (met 𝓤 𝓛 𝓜 𝓡 (code.calls-tpm_c::caller::nothing 𝓡.env wired)) ((tt, tt, tt, tt, tt), tt) (id⊢ 𝓤 _) (λ v. id⊢ 𝓤 _)
    (λ p g. there 𝓛 (room_at the_row p)) (λ b o g x. is_this 𝓛 the_row b o)
