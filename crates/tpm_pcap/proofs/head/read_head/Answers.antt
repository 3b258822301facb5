use Rattle.std.proofs.Common.{None, Some, sym, ◌∙◌}
use Rattle.std.proofs.lemmas.Result.{IfOk-weaker}
use Rattle.tpm_pcap.proofs.Heads.{by_order}
use Rattle.tpm_pcap.proofs.head.read_head.Goals as goal

pub returns-in_ok-file-in-Some-clause-told : goal.returns-in_ok-file-in-Some-clause-told
returns-in_ok-file-in-Some-clause-told c = λ rest h. rw (c.in_ok-file-in-Some.ensures, c.new-section.ensures)
    (sym (by_order c.args.port c.args.head.now rest (Some c.in-Some.order) h (rw (← c.order_of.ensures) (sym c.unwrap_or.ensures ∙ c.in-Some.is))))

pub returns-in-None-clause-told : goal.returns-in-None-clause-told
returns-in-None-clause-told c = IfOk-weaker c.savefile_head.result _ _ (λ carried told rest h.
    told rest h ∙ sym (by_order c.args.port c.args.head.now rest None h (rw (← c.order_of.ensures) (sym c.unwrap_or.ensures ∙ c.in-None.is))))
    c.savefile_head.ensures.told
