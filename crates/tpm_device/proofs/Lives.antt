-- What a device answers over its lives is what the model's lives have.
use Rattle.std.proofs.Common.{◌≡◌, ℕ, ◌<◌, List, [], ◌∷◌, ◌++◌, Option, Some, None, Ok, refl, sym, ap, subst, ◌∙◌, append_assoc}
use Rattle.tpm_wire.specs.Path.{Spells}
use Rattle.tpm_wire.specs.Buffers.{buffer}
use Rattle.tpm_wire.proofs.Buffers.{buffer_sound}
use Rattle.tpm_wire.proofs.Whole.{exactly_one}
use Rattle.tpm_types.specs.declared.handle_sets.NvAuthHandle.{NvAuthHandle}
use Rattle.tpm_commands.specs.declared.command.CommandBody.TheVariants.{NvIncrement}
use Rattle.tpm_model.specs.Steps.{History, Origin, PowerCycle}
use Rattle.tpm_model.specs.Counters.{counter_in, value_of, value_at, nv_memory}
use Rattle.tpm_model.specs.Kept.{IsFair, kept_memory, restored}
use Rattle.tpm_model.specs.Present.{Present, present}
use Rattle.tpm_model.specs.Answers.{Done, outcome, answer, next}
use Rattle.tpm_model.specs.Runs.{Stimulus, Given, Cycled, after}
use Rattle.tpm_model.specs.Premises.{code_in, HasSessionMac}
use Rattle.tpm_model.specs.Lives.{Life, origin_after, Execution, executions_of, executions, kept_executions, WasAccepted}
use Rattle.tpm_model.specs.Lives.{Increments, value_after, NoncesDifferOver, NoCollisionOver}
use Rattle.tpm_model.proofs.Lives.{both_cut, executions-append, twice_over, more_than_kept, more_than_first, more_than_none}
use Rattle.tpm_device.specs.declared.device.Device.{Device}
use Rattle.tpm_device.specs.Stands.{holds, Stands}
use Rattle.tpm_device.specs.Runs.{value_on}
use Rattle.tpm_device.specs.Runs.{Call}
use Rattle.tpm_device.specs.Lives.{Calls, IsMadeOf, LivesThrough}
use Rattle.tpm_device.proofs.Ran.{accepted}

-- ---- calls and executions

-- The call is this execution.
record IsOf (c : Call) (x : Execution) : Type 0 where
  bytes : c.bytes ≡ x.bytes
  nonce : c.nonce ≡ x.nonce
  response : c.response ≡ answer x.origin x.history x.bytes x.nonce
  old : Stands x.origin x.history c.old
  new : Stands x.origin (next x.origin x.history x.bytes x.nonce) c.new

abbrev AreOf : List Call → List Execution → Type 0
AreOf [] [] = Unit {0}
AreOf (c ∷ calls) (x ∷ xs) = IsOf c x × AreOf calls xs
AreOf [] (x ∷ xs) = ⊥
AreOf (c ∷ calls) [] = ⊥

are-append : (cs ds : List Call) (xs ys : List Execution) → AreOf cs xs → AreOf ds ys → AreOf (cs ++ ds) (xs ++ ys)
are-append [] ds [] ys a b = b
are-append (c ∷ cs) ds (x ∷ xs) ys a b = (a.0, are-append cs ds xs ys a.1 b)
are-append [] ds (x ∷ xs) ys a b = absurd a
are-append (c ∷ cs) ds [] ys a b = absurd a

calls_are : (o : Origin) (h : History) (old new : Device) (es : List Stimulus) (calls : List Call) → Stands o h old → Calls old es calls new
    → AreOf calls (executions_of o h es) × Stands o (after o h es) new
calls_are o h old new [] calls st (none, same) = (subst (λ (cs : List Call). AreOf cs []) (sym none) tt, subst (λ (d : Device). Stands o h d) same st)
calls_are o h old new (Given bytes n ∷ es) calls st (response, d, later, by, is, others) =
    let ends : Stands o (next o h bytes n) d = by.stands o h st in
    let rest = calls_are o (next o h bytes n) d new es later ends others in
    let one : IsOf
    (record { old = old; bytes = bytes; nonce = n; response = response; new = d })
    (record { origin = o; history = h; bytes = bytes; nonce = n }) =
    record { bytes = refl; nonce = refl; response = by.answers o h st; old = st; new = ends } in
    (subst (λ (cs : List Call). AreOf cs (executions_of o h (Given bytes n ∷ es))) (sym is) (one, rest.0), rest.1)
calls_are o h old new (Cycled ∷ es) calls st (d, by, others) = calls_are o (PowerCycle ∷ h) d new es calls (by o h st) others

-- A device that is made again stands at the next life's origin.
made_again : (o : Origin) (life : Life) (old put_away d : Device) (bytes : List ℕ) → Stands o [] old
    → Spells kept_memory (nv_memory o (after o [] life.kept)) bytes → IsMadeOf (holds old).owner bytes d → Stands (origin_after o life) [] d
made_again o life old put_away d bytes st kept m =
    let nv = nv_memory o (after o [] life.kept) in
    let same : (holds d).nv ≡ nv = (exactly_one buffer buffer_sound kept_memory bytes).one_value (holds d).nv nv m.reads kept in
    m.made ∙ ap (restored (holds old).owner) same ∙ ap (λ (p : Present). restored p.owner nv) st

-- all calls, and the kept ones
through : (o : Origin) (first : Device → Type 0) (ls : List Life) (all kept : List Call) → ((d : Device) → first d → Stands o [] d)
    → LivesThrough first ls all kept → AreOf all (executions o ls) × AreOf kept (kept_executions o ls)
through o first [] all kept is (none, none_kept) =
    (subst (λ (cs : List Call). AreOf cs []) (sym none) tt, subst (λ (cs : List Call). AreOf cs []) (sym none_kept) tt)
through o first (life ∷ ls) all kept is (x, all_later, kept_later, f, a, k, others) =
    let later = origin_after o life in
    let h = after o [] life.kept in
    let st = is x.old f in
    let one = calls_are o [] x.old x.put_away life.kept x.kept st x.kept_by in
    let two = calls_are o h x.put_away x.last life.lost x.lost one.1 x.lost_by in
    let rest = through later (IsMadeOf (holds x.old).owner x.bytes) ls all_later kept_later
    (λ d m. made_again o life x.old x.put_away d x.bytes st (x.is_kept o h one.1) m) others in
    let own : AreOf (x.kept ++ x.lost) (executions_of o [] (life.kept ++ life.lost)) =
    subst (AreOf (x.kept ++ x.lost)) (sym (executions-append o [] life.kept life.lost))
    (are-append x.kept x.lost (executions_of o [] life.kept) (executions_of o h life.lost) one.0 two.0) in (
      subst (λ (cs : List Call). AreOf cs (executions o (life ∷ ls))) (sym a)
          (are-append (x.kept ++ x.lost) all_later (executions_of o [] (life.kept ++ life.lost)) (executions later ls) own rest.0),
      subst (λ (cs : List Call). AreOf cs (kept_executions o (life ∷ ls))) (sym k)
          (are-append x.kept kept_later (executions_of o [] life.kept) (kept_executions later ls) one.0 rest.1),
    )

-- the execution of a call
record Found (c : Call) (cs : List Call) (es : List Execution) : Type 0 where
  before : List Execution
  it : Execution
  behind : List Execution
  are : es ≡ before ++ it ∷ behind
  is : IsOf c it
  later : AreOf cs behind

found : (bs : List Call) (c : Call) (cs : List Call) (es : List Execution) → AreOf (bs ++ c ∷ cs) es → Found c cs es
found [] c cs [] a = absurd a
found [] c cs (x ∷ es) a = record { before = []; it = x; behind = es; are = refl; is = a.0; later = a.1 }
found (b ∷ bs) c cs [] a = absurd a
found (b ∷ bs) c cs (x ∷ es) a =
    let r = found bs c cs es a.1 in
    record { before = x ∷ r.before; it = r.it; behind = r.behind; are = ap (λ (l : List Execution). x ∷ l) r.are; is = r.is; later = r.later }

-- the executions of two calls
record FoundTwo (c d : Call) (es : List Execution) : Type 0 where
  before : List Execution
  first : Execution
  between : List Execution
  second : Execution
  behind : List Execution
  are : es ≡ before ++ first ∷ between ++ second ∷ behind
  first_is : IsOf c first
  second_is : IsOf d second

found_two : (bs cs ds all : List Call) (c d : Call) (es : List Execution) → all ≡ bs ++ c ∷ cs ++ d ∷ ds → AreOf all es → FoundTwo c d es
found_two bs cs ds all c d es is a =
    let r = found bs c (cs ++ d ∷ ds) es (subst (λ (l : List Call). AreOf l es) (is ∙ append_assoc bs (c ∷ cs) (d ∷ ds)) a) in
    let s = found cs d ds r.behind r.later in
    record {
      before = r.before;
      first = r.it;
      between = s.before;
      second = s.it;
      behind = s.behind;
      are = both_cut es r.before r.behind s.before s.behind r.it s.it r.are s.are;
      first_is = r.is;
      second_is = s.is;
    }

-- ---- no replay

was_accepted : (c : Call) (x : Execution) → IsOf c x → code_in c.response ≡ 0 → WasAccepted x
was_accepted c x is zero = accepted x.origin x.history x.bytes x.nonce c.response is.response zero

pub not_twice_over : (o : Origin) (ls : List Life) (all kept xs ys zs : List Call) (x y : Call) → LivesThrough (Stands o []) ls all kept
    → all ≡ xs ++ x ∷ ys ++ y ∷ zs → NoncesDifferOver ls → NoCollisionOver o ls → HasSessionMac x.bytes → x.bytes ≡ y.bytes
    → code_in x.response ≡ 0 → code_in y.response ≡ 0 → ⊥
not_twice_over o ls all kept xs ys zs x y lived is differ free mac same zero zero_again =
    let r = found_two xs ys zs all x y (executions o ls) is (through o (Stands o []) ls all kept (λ d st. st) lived).0 in
    twice_over o ls r.before r.between r.behind r.first r.second r.are differ free (subst HasSessionMac r.first_is.bytes mac)
    (sym r.first_is.bytes ∙ same ∙ r.second_is.bytes) (was_accepted x r.first r.first_is zero) (was_accepted y r.second r.second_is zero_again)

-- ---- no counter goes back

abbrev value_held : ℕ → Present → Option ℕ
value_held i p = value_of (counter_in p.nv.counters i)

increments : (c : Call) (x : Execution) (i : ℕ) (d : Done) (by : NvAuthHandle) → IsOf c x → outcome (holds c.old) c.bytes c.nonce ≡ Ok d
    → d.command.body ≡ NvIncrement by i → Increments x i
increments c x i d by is done body =
    let p = present x.origin x.history in
    let same = ap (outcome p x.bytes) (sym is.nonce) ∙ ap (λ (b : List ℕ). outcome p b c.nonce) (sym is.bytes)
    ∙ ap (λ (q : Present). outcome q c.bytes c.nonce) (sym is.old) in
    (d, by, same ∙ done, body)

-- what a call leaves
left : (c : Call) (x : Execution) (i w : ℕ) → IsOf c x → (v : ℕ) × (value_after x i ≡ Some v) × (w < v) → (v : ℕ) × (value_on c.new i ≡ Some v) × (w < v)
left c x i w is (v, has, more) = (v, ap (value_held i) is.new ∙ has, more)

pub rises_over : (o : Origin) (ls : List Life) (all kept xs ys zs : List Call) (x y : Call) (d : Done) (by : NvAuthHandle) (i w : ℕ) → IsFair o.nv
    → LivesThrough (Stands o []) ls all kept → kept ≡ xs ++ x ∷ ys ++ y ∷ zs → value_on x.new i ≡ Some w → outcome (holds y.old) y.bytes y.nonce ≡ Ok d
    → d.command.body ≡ NvIncrement by i → (v : ℕ) × (value_on y.new i ≡ Some v) × (w < v)
rises_over o ls all kept xs ys zs x y d by i w fair lived is has done body =
    let r = found_two xs ys zs kept x y (kept_executions o ls) is (through o (Stands o []) ls all kept (λ d st. st) lived).1 in
    left y r.second i w r.second_is
    (more_than_kept o ls r.before r.between r.behind r.first r.second i w fair r.are (sym (ap (value_held i) r.first_is.new) ∙ has)
    (increments y r.second i d by r.second_is done body))

pub rises_from_first : (o : Origin) (ls : List Life) (all kept xs ys : List Call) (x : Call) (d : Done) (by : NvAuthHandle) (i w : ℕ) → IsFair o.nv
    → LivesThrough (Stands o []) ls all kept → kept ≡ xs ++ x ∷ ys → value_at o [] i ≡ Some w → outcome (holds x.old) x.bytes x.nonce ≡ Ok d
    → d.command.body ≡ NvIncrement by i → (v : ℕ) × (value_on x.new i ≡ Some v) × (w < v)
rises_from_first o ls all kept xs ys x d by i w fair lived is had done body =
    let e = kept_executions o ls in
    let r = found xs x ys e (subst (λ (l : List Call). AreOf l e) is (through o (Stands o []) ls all kept (λ d st. st) lived).1) in
    left x r.it i w r.is (more_than_first o ls r.before r.behind r.it i w fair r.are had (increments x r.it i d by r.is done body))

pub rises_from_none : (o : Origin) (ls : List Life) (all kept xs ys : List Call) (x : Call) (d : Done) (by : NvAuthHandle) (i : ℕ)
    → LivesThrough (Stands o []) ls all kept → kept ≡ xs ++ x ∷ ys → value_at o [] i ≡ None → outcome (holds x.old) x.bytes x.nonce ≡ Ok d
    → d.command.body ≡ NvIncrement by i → (v : ℕ) × (value_on x.new i ≡ Some v) × (o.nv.greatest < v)
rises_from_none o ls all kept xs ys x d by i lived is none done body =
    let e = kept_executions o ls in
    let r = found xs x ys e (subst (λ (l : List Call). AreOf l e) is (through o (Stands o []) ls all kept (λ d st. st) lived).1) in
    left x r.it i o.nv.greatest r.is (more_than_none o ls r.before r.behind r.it i r.are none (increments x r.it i d by r.is done body))
