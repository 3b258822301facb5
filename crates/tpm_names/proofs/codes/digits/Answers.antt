use Rattle.std.proofs.Common.{◌≡◌, refl, arith}
use Rattle.std.specs.Fmt.{digits}
use Rattle.tpm_names.proofs.codes.digits.Goals as goal

pub returns-in-0 : goal.returns-in-0
unfolding digits
returns-in-0 c = rw c.in-0.is refl

pub returns-in-1 : goal.returns-in-1
unfolding digits
returns-in-1 c = rw c.in-1.is refl

pub returns-in-2 : goal.returns-in-2
unfolding digits
returns-in-2 c = rw c.in-2.is refl

pub returns-in-3 : goal.returns-in-3
unfolding digits
returns-in-3 c = rw c.in-3.is refl

pub returns-in-4 : goal.returns-in-4
unfolding digits
returns-in-4 c = rw c.in-4.is refl

pub returns-in-5 : goal.returns-in-5
unfolding digits
returns-in-5 c = rw c.in-5.is refl

pub returns-in-6 : goal.returns-in-6
unfolding digits
returns-in-6 c = rw c.in-6.is refl

pub returns-in-7 : goal.returns-in-7
unfolding digits
returns-in-7 c = rw c.in-7.is refl

pub returns-in-8 : goal.returns-in-8
unfolding digits
returns-in-8 c = rw c.in-8.is refl

pub returns-in-9 : goal.returns-in-9
unfolding digits
returns-in-9 c = rw c.in-9.is refl

pub returns-in-10 : goal.returns-in-10
unfolding digits
returns-in-10 c = rw c.in-10.is refl

pub returns-in-11 : goal.returns-in-11
unfolding digits
returns-in-11 c = rw c.in-11.is refl

pub returns-in-12 : goal.returns-in-12
unfolding digits
returns-in-12 c = rw c.in-12.is refl

pub returns-in-13 : goal.returns-in-13
unfolding digits
returns-in-13 c = rw c.in-13.is refl

pub returns-in-14 : goal.returns-in-14
unfolding digits
returns-in-14 c = rw c.in-14.is refl

pub returns-in_default : goal.returns-in_default
unfolding digits
returns-in_default c = let is : c.args.number ≡ 15 = omega (arith, c.requires, c.in_default) in rw is refl
