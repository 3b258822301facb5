use Rattle.std.proofs.Common.{◌≡◌, ℕ, true, false, Some, find, option_map, sym, ap, ◌∙◌, arith}
use Rattle.std.proofs.lemmas.List.{take_all}
use Rattle.tpm_pcr.specs.Registers.{all_registers}
use Rattle.tpm_pcr.proofs.Choice.{register_more}
use Rattle.tpm_quote.specs.Attests.{register_of}
use Rattle.tpm_check.specs.AllowTold.{is_lacking}
use Rattle.tpm_check.proofs.FirstOf.{found_at, none_more}
use Rattle.tpm_check.proofs.allow_told.first_lacking_of.Goals as goal

pub returns-then-is_lacking : goal.returns-then-is_lacking
returns-then-is_lacking c =
    let q = c.loop-number.number in
    let bank = c.args.bank in
    let p = is_lacking c.args.list.now c.args.quoted.now bank in
    let e : c.register-register.result ≡ q = c.register-register.ensures in
    let lacks : p q ≡ true = ap p (sym e) ∙ sym c.is_lacking.ensures ∙ c.if-is_lacking.true in
    ap (λ (n : ℕ). Some (register_of bank n)) e
    ∙ ap (option_map (register_of bank))
    (sym (found_at p all_registers q (register_more q c.loop-number-test.true) c.loop-number.invariant lacks))

pub loop-number-preserved : goal.loop-number-preserved
loop-number-preserved c =
    let q = c.loop-number.number in
    let p = is_lacking c.args.list.now c.args.quoted.now c.args.bank in
    let has : p q ≡ false = ap p (sym c.register-register.ensures) ∙ sym c.is_lacking.ensures ∙ c.if-is_lacking.false in
    none_more p all_registers q (register_more q c.loop-number-test.true) c.loop-number.invariant has

pub returns : goal.returns
returns c =
    let p = is_lacking c.args.list.now c.args.quoted.now c.args.bank in
    ap (option_map (register_of c.args.bank))
    (sym c.loop-number.invariant
    ∙ ap (find p) (take_all c.loop-number.number all_registers (omega (arith, c.loop-number-test.false))))
