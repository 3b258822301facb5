use Rattle.std.proofs.Common.{◌≡◌, [], ◌∷◌, Some, None, refl, sym, ap, ◌∙◌, subst}
use Rattle.std.specs.Prelude.{if◌then◌else◌, option_map}
use Rattle.tpm_model.specs.Steps.{History, Accepted}
use Rattle.tpm_model.specs.Changes.{changes}
use Rattle.tpm_pcr.specs.Registers.{registers_after}
use Rattle.tpm_model.specs.Policies.{policy_of}
use Rattle.tpm_model.specs.Sessions.{Session, slot_of, lives, begins, authorizes, start_of, last_nonce, asserted_by}
use Rattle.tpm_model.specs.Sessions.{assertions_of, as_session, session_at}
use Rattle.tpm_model.proofs.Accepted.{next_is}
use Rattle.tpm_model.proofs.Slots.{by_start}
use Rattle.tpm_model.proofs.Replay.{its_slot, chosen}
use Rattle.tpm_model.proofs.laws.policy_starts_again.Goals as goal

pub returns : goal.returns
returns c = λ o h bytes n d a s e one is there.
    let k = slot_of a.session in
    let g : History = Accepted d.command d.reply n ∷ h in
    let by_it = ap (authorizes k) one ∙ its_slot a is in
    let none : assertions_of k g ≡ [] =
    chosen (begins k d.command.body d.reply.body) (authorizes k d.command.auths.items) []
    (asserted_by k d.command.body (registers_after (changes h)) (start_of k h) (assertions_of k h)) by_it in
    let here : session_at o g k ≡ Some s = sym (ap (λ (l : History). session_at o l k) (next_is o h bytes n d e)) ∙ there in
    let x =
    by_start o (lives k g) (start_of k g) (last_nonce k g) [] s
    (subst (λ made. (if lives k g then option_map (as_session o (last_nonce k g) made) (start_of k g) else None) ≡ Some s) none here) in
    subst (λ (y : Session). y.policy ≡ policy_of y.hash []) (sym x.3) refl
