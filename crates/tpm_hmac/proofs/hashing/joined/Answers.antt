use Rattle.std.proofs.Common.{◌≡◌, ◌+◌, ◌/◌, length, take, arith}
use Rattle.std.proofs.lemmas.List.{take_all}
use Rattle.tpm_hmac.proofs.Joined.{both_fill}
use Rattle.tpm_hmac.proofs.hashing.joined.Goals as goal

pub returns : goal.returns
returns g c =
    let n = g.row.N in
    let front = take_all (n / 2) c.args.front.now (omega arith) in
    let back = take_all (n / 2) c.args.back.now (omega arith) in
    let fits : length (take (n / 2) c.args.front.now) + length (take (n / 2) c.args.back.now) ≡ n = rw (front, back) (omega arith) in
    rw (front, back) at
    (both_fill n (take (n / 2) c.args.front.now) (take (n / 2) c.args.back.now) c.put.new.out c.put-2.new.out fits c.put.ensures c.put-2.ensures)
