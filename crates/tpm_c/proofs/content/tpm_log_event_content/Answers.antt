use Rattle.std.proofs.Common.{length, subst, sym}
use Rattle.tpm_event_data.specs.Contents.{Content}
use Rattle.tpm_c.specs.Contents.{content_view, IsContentTold, ViewsContent}
use Rattle.tpm_c.proofs.Contents.{fits_of, views_of}
use Rattle.tpm_c.proofs.content.tpm_log_event_content.Goals as goal

pub tell-requires : goal.tell-requires
tell-requires c = rw c.content-content.ensures (fits_of c.args.kind c.args.bytes.now)

pub returns : goal.returns
returns c =
    let bytes = c.args.bytes.now in
    let old = c.args.view.now in
    let same = c.content-content.ensures in
    subst (λ (it : Content). IsContentTold it bytes (record { answer = c.content_number.result; old = old; new = c.tell.new.view })) same
    (record {
      view = c.tell.ensures;
      bytes_are =
          rw c.tell.ensures
          (subst (λ (it : Content). ViewsContent bytes it (content_view (length bytes) it old)) (sym same) (views_of c.args.kind bytes old));
      answer = c.content_number.ensures;
    })
