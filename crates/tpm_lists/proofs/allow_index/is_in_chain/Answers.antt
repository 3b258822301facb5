use Rattle.std.proofs.Common.{◌≡◌, ◌+◌, ◌-◌, sym, ◌∙◌, arith}
use Rattle.tpm_lists.proofs.AllowFinding.{chain_on, last_found, leads_on, none_found}
use Rattle.tpm_lists.proofs.allow_index.is_in_chain.Goals as goal

pub loop-end-init : goal.loop-end-init
loop-end-init c = leads_on c.args.digests.now c.args.sought.now.bank c.args.sought.now.register c.args.sought.now.digest.now c.args.end c.requires.ends

pub returns-then-is_this : goal.returns-then-is_this
returns-then-is_this c =
    let end = c.loop-end.end in
    let place : end ≡ (end - 1) + 1 = omega (arith, c.loop-end-test.true) in
    let s = c.args.sought.now in
    sym (last_found c.args.digests.now s.bank s.register s.digest.now end c.loop-end.invariant (end - 1) c.index-digests-end.result place
    c.index-digests-end.is (sym c.is_this.ensures ∙ c.if-is_this.true))

pub loop-end-preserved : goal.loop-end-preserved
loop-end-preserved c =
    let end = c.loop-end.end in
    let place : end ≡ (end - 1) + 1 = omega (arith, c.loop-end-test.true) in
    let s = c.args.sought.now in
    chain_on c.args.digests.now s.bank s.register s.digest.now end c.loop-end.invariant (end - 1) c.index-digests-end.result place
    c.index-digests-end.is c.args.before.now (sym c.is_this.ensures ∙ c.if-is_this.false) c.requires.before

pub returns : goal.returns
returns c =
    let none : c.loop-end.end ≡ 0 = omega (arith, c.loop-end-test.false) in
    let s = c.args.sought.now in
    sym (none_found c.args.digests.now s.bank s.register s.digest.now c.loop-end.end c.loop-end.invariant none)
