use Rattle.std.proofs.Common.{◌≡◌, ◌-◌, length, take, sym, ap, ◌∙◌, arith}
use Rattle.std.proofs.lemmas.List.{append-nil, length-take}
use Rattle.tpm_types.specs.declared.alg.Alg.TheVariants.{Sha256}
use Rattle.tpm_wire.specs.Spelling.{spelling}
use Rattle.tpm_hmac.specs.Hashes.{digest}
use Rattle.tpm_model.specs.Kept.{kept_contents}
use Rattle.tpm_nv.proofs.Memory.{front_is}
use Rattle.tpm_nv.proofs.counters.Counters.read_memory.Goals as goal

pub slice_bounds-hash-length : goal.slice_bounds-hash-length
slice_bounds-hash-length c = omega (
  arith,
  c.left-all.ensures,
  ap length c.requires,
  length-take 4096 c.args.bytes.now,
  length-take (c.left-all.result - c.left.result) c.args.bytes.now,
)

pub take_digest-requires : goal.take_digest-requires
take_digest-requires c =
    let n = c.left-all.result - c.left.result in
    let so_many : n ≡ length (take 4096 c.args.bytes.now) - length c.read_contents.new.cursor.here.rest =
    omega (arith, c.left-all.ensures, c.left.ensures, ap length c.requires) in
    c.hash-digest.ensures.value ∙ ap (digest Sha256)
    (append-nil (take n c.args.bytes.now)
    ∙ front_is c.args.bytes.now (spelling kept_contents c.read_contents.new.self) c.read_contents.new.cursor.here.rest n
    (sym c.requires ∙ c.in_ok-read_contents.ensures.spelled) so_many)
