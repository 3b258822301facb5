use Rattle.std.proofs.Common.{[], refl}
use Rattle.tpm_model.specs.Steps.{new_origin}
use Rattle.tpm_script.specs.Script.{script, script_text}
use Rattle.tpm_program.proofs.shows.run_input.Goals as goal

pub returns-clause-ok : goal.returns-clause-ok
returns-clause-ok g c =
    let coming = g.I.Source.Source.coming in
    let ran = c.in_ok-run_script.ensures.ok in
    let origin = new_origin c.args.owner.now c.args.greatest in (
      script_text origin [] (script ran.0),
      (coming c.standard-script.result, c.standard-script.ensures.stands, (ran.0, coming c.run_script.new.input, ran.1, ran.2, refl)),
      ran.3 origin [] c.new-device.ensures,
    )
