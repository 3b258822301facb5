-- What the walks by hand are made of.
pub use Rattle.std.proofs.Common.{◌≡◌, ℕ, List, [], ◌∷◌, length, refl, w16, w32, w64, ◌≤◌, Bool, true, false, lit<, ltb→lt}
pub use Rattle.std.proofs.Common.{nltb→le, sym, arith, ap, Option, None}
pub use seplogic.Ra.Ura.{Ura}
pub use base.Fraction.{full_share}
pub use mir.Syntax.{named}
pub use mir.Val.{Val, vptr, vunit, vint}
pub use base.Logic.{SProp, ent, sep, via, snd∗, never, never_e, id⊢, emp, emp∗, mono_r}
pub use base.Fml.{Lft, GName, Fml, flft, flent, ftrue, fres}
pub use prog.Wp.{Calls, Loops, WpFn}
pub use denote.Triple.End.{lasts_of}
pub use types.Logic.{Logic, sem}
pub use types.SemTy.{Body}
pub use contract.Monad.{fact, fact_i}
pub use contract.Lifetimes.{Lfts}
pub use contract.Running.{tables}
pub use types.Kit.{
  ‵,
  raw,
  ◌⊛◌,
  some,
  later,
  ◌$◌,
  ◌∵◌,
  !,
  qed,
  by,
  move,
  drop,
  use0,
  use1,
  use3,
  split,
  join,
  pick,
  fsplit,
  fjoin,
  rewrite,
  await,
  done,
  feq_i,
  fpick,
  fpack,
  at_ret,
  mean,
}
pub use types.Tokens.{lft_new, lft_end}
pub use types.Run.{
  addr,
  stop,
  of_opd,
  and_then,
  no_more,
  returns,
  enter,
  init,
  unit_lit,
  assigns,
  fld,
  hop,
  from,
  lit,
  bin,
  first,
  branches,
  skips,
  exec,
  returns_within,
}
pub use types.ByLocal.{alloc_all, pass_all, free_all, look_at, through, get, sets, lands_as, look_in_at, get_in, env}
pub use sound.WpLaws.{FmC}
pub use denote.RattleType.{owns, Valss}
pub use denote.Memory.{mem, part_at}
pub use denote.Plain.{uint_Lawful, uint_vals, uint_Tells, uint_Makes}
pub use denote.Builtin.{u8, u32}
pub use denote.Laws.{Is, Spells, shows}
pub use denote.Ref.{MutBor, MutRef, shr_vals, shr_Tells, mut_vals, mut_Tells}
pub use denote.Slice.{shr_slice_vals, shr_slice_Tells, mut_slice_vals, mut_slice_Tells}
pub use denote.Signature.{Slot, types_at}
pub use denote.Lend.{lends_ref, ref_back}
pub use denote.RawPtr.{Ptr, lies_at, block_ptr, null_ptr, rawptr_vals, rawptr_Tells, room_at, rawptr_Lawful}
pub use denote.Steps.{peeks, heard, nothing, only}
pub use denote.Triple.Statement.{Contract, Triple}
pub use denote.Triple.Call.{calls_at}
pub use denote.Triple.Clauses.{lasts}
pub use denote.Triple.Entry.{alive}
pub use denote.Triple.Spec.{triple_of}
pub use denote.Triple.Walked.{says, Stays, walk_of}
pub use types.Part.{whole, sub, agg}
pub use denote.Array.{Array}
pub use Rattle.std.proofs.lemmas.Bool.{leb-true, leb-false}
pub use Rattle.std.proofs.raw_atomic.Walks.{proved}
pub use denote.Triple.Table.{framed}
