-- A fault of a cut is the whole command's.
use Rattle.std.proofs.Common.{◌≡◌, ℕ, ◌+◌, ◌-◌, Bool, true, false, cond, eqb, List, length, Result, Ok, Err, refl, sym}
use Rattle.std.proofs.Common.{ap, ◌∙◌, arith}
use Rattle.tpm_wire.specs.declared.refusal.Refusal.{Refusal}
use Rattle.tpm_wire.specs.Token.{Here, at_start}
use Rattle.tpm_wire.specs.Layout.{cut}
use Rattle.tpm_wire.specs.Reading.{read, read_all, finish, ◌>>=◌}
use Rattle.tpm_wire.specs.Buffers.{buffer, Layout, later_refusal}
use Rattle.tpm_wire.specs.inner.Buffers.{later_place}
use Rattle.tpm_wire.specs.Path.{Fault, Spells}
use Rattle.tpm_wire.proofs.Buffers.{buffer_sound}
use Rattle.tpm_wire.proofs.Whole.{fault_read, read_fault, spells_read, read_spells}
use Rattle.tpm_wire.proofs.Agreement.{ok_is, err_is, ends_same}
use Rattle.tpm_wire.proofs.Cuts.{cut_read, parted}
use Rattle.tpm_wire.proofs.Elsewhere.{read_later, later}
use Rattle.tpm_commands.specs.declared.command.Command.{Command}
use Rattle.tpm_commands.specs.declared.command.Params.{Params}
use Rattle.tpm_commands.specs.Handles.{handles}
use Rattle.tpm_commands.specs.Parameters.{parameters}
use Rattle.tpm_types.proofs.Short.{ok, err}
use Rattle.tpm_buffer.proofs.Places.{here_is}
use Rattle.tpm_buffer.specs.Commands.{header, authorization, body_from, with_auths, front, Checked, before_params}
use Rattle.tpm_buffer.specs.Commands.{command}

-- what fails in one chain fails in another that begins so
fails : {A B C : Type 0} (r : Result A Refusal) (f : A → Result B Refusal) (g : A → Result C Refusal) (d : Refusal)
    → ((x : A) → f x ≡ Err d → g x ≡ Err d) → (r >>= f) ≡ Err d → (r >>= g) ≡ Err d
fails (Ok x) f g d same e = same x e
fails {B = B} {C = C} (Err c) f g d same e = ap (err {A = C}) (err_is {A = B} c d e)

never : {A B : Type 0} (x : A) (d : Refusal) (r : Result B Refusal) → (let y : Result A Refusal = Ok x in y) ≡ Err d → r ≡ Err d
never x d r e = absurd cc

header_fails : (h : Here) (d : Refusal) → read 0 header h ≡ Err d → read 0 command h ≡ Err d
unfolding command
header_fails h d e = rw e refl

front_fails : (h : Here) (d : Refusal) → read 0 front h ≡ Err d → read 0 command h ≡ Err d
unfolding front command
front_fails h d = fails (read 0 header h) _ _ d (λ a. fails (read 0 (handles a.0.code) a.1) _ _ d (λ b. never _ d _))

before_fails : (h : Here) (d : Refusal) → read 0 before_params h ≡ Err d → read 0 command h ≡ Err d
unfolding before_params command
before_fails h d =
    fails (read 0 header h) _ _ d
    (λ a.
    fails (read 0 (handles a.0.code) a.1) _ _ d
    (λ b. fails (read 0 (authorization a.0.tag) b.1) _ _ d (λ x. never _ d _)))

cut_fails : {A : Type 0} (r : Result (A × Here) Refusal) (d : Refusal) → (r >>= parted) ≡ Err d → r ≡ Err d
cut_fails (Ok x) d e = absurd cc
cut_fails {A = A} (Err c) d e = ap (err {A = A × Here}) (err_is {A = A × List ℕ} c d e)

pub cut_fault : {A : Type 0} (l : Layout A) (bytes : List ℕ) (e : Refusal) → Fault (cut l) bytes e → read 0 l (at_start bytes) ≡ Err e
cut_fault l bytes e s = cut_fails (read 0 l (at_start bytes)) e (sym (cut_read l bytes) ∙ fault_read buffer buffer_sound (cut l) bytes e s)

-- the fault of a cut that fails where the command does
of_cut : {A : Type 0} (l : Layout A) (bytes : List ℕ) (e : Refusal) → (read 0 l (at_start bytes) ≡ Err e → read 0 command (at_start bytes) ≡ Err e)
    → Fault (cut l) bytes e → Fault command bytes e
of_cut l bytes e fails s =
    let all : read_all command bytes ≡ Err e = rw (fails (cut_fault l bytes e s)) refl in
    read_fault buffer buffer_sound command bytes e all

pub of_header : (bytes : List ℕ) (e : Refusal) → Fault (cut header) bytes e → Fault command bytes e
of_header bytes e = of_cut header bytes e (header_fails (at_start bytes) e)

pub of_front : (bytes : List ℕ) (e : Refusal) → Fault (cut front) bytes e → Fault command bytes e
of_front bytes e = of_cut front bytes e (front_fails (at_start bytes) e)

pub of_before : (bytes : List ℕ) (e : Refusal) → Fault (cut before_params) bytes e → Fault command bytes e
of_before bytes e = of_cut before_params bytes e (before_fails (at_start bytes) e)

-- ---- behind the cut

abbrev at_command : Command → Here → Result (Command × Here) Refusal
at_command c h = Ok (c, h)

-- what succeeds in one chain goes on in another that begins so
goes_on : {A B C : Type 0} (r : Result A Refusal) (f : A → Result B Refusal) (g : A → Result C Refusal) (y : B)
    (o : Result C Refusal)
    → ((x : A) → f x ≡ Ok y → g x ≡ o) → (r >>= f) ≡ Ok y → (r >>= g) ≡ o
goes_on (Ok x) f g y o same e = same x e
goes_on (Err c) f g y o same e = absurd cc

-- what is read behind all that stands before the parameters
abbrev behind : Checked × Here → Result (Command × Here) Refusal
behind y = read 0 (parameters y.0.header.code) y.1 >>= λ p. at_command (with_auths (body_from y.0.handles p.0) y.0.auths) p.1

command_goes_on : (h : Here) (y : Checked × Here) → read 0 before_params h ≡ Ok y → read 0 command h ≡ behind y
unfolding before_params command
command_goes_on h y =
    goes_on (read 0 header h) _ _ y (behind y)
    (λ a.
    goes_on (read 0 (handles a.0.code) a.1) _ _ y (behind y)
    (λ b. goes_on (read 0 (authorization a.0.tag) b.1) _ _ y (behind y) (λ c e. ap behind (ok_is _ y e))))

record Before (bytes rest : List ℕ) (x : Checked) : Type 0 where
  place : Here
  is : read 0 before_params (at_start bytes) ≡ Ok (x, place)
  at : place ≡ later_place (length bytes - length rest) (at_start rest)

cut_is : (r : Result (Checked × Here) Refusal) (x : Checked) (rest : List ℕ) → (r >>= parted) ≡ Ok (x, rest) → (g : Here) × (r ≡ Ok (x, g)) × (g.rest ≡ rest)
cut_is (Ok y) x rest e =
    let pairs : (y.0, y.1.rest) ≡ (x, rest) = ok_is _ _ e in
    (y.1, ap (λ (z : Checked). ok (z, y.1)) (ap (λ (p : Checked × List ℕ). p.0) pairs), ap (λ (p : Checked × List ℕ). p.1) pairs)
cut_is (Err c) x rest e = absurd cc

pub cut_value : (bytes rest : List ℕ) (x : Checked) → Spells (cut before_params) (x, rest) bytes
    → (g : Here) × (read 0 before_params (at_start bytes) ≡ Ok (x, g)) × (g.rest ≡ rest)
cut_value bytes rest x s =
    cut_is (read 0 before_params (at_start bytes)) x rest
    (sym (cut_read before_params bytes) ∙ spells_read buffer buffer_sound (cut before_params) bytes (x, rest) s)

before : (bytes rest : List ℕ) (x : Checked) → Spells (cut before_params) (x, rest) bytes → Before bytes rest x
before bytes rest x s =
    let c = cut_value bytes rest x s in
    let ends = ends_same buffer buffer_sound 0 before_params (at_start bytes) (x, c.0) c.1 in
    let k : c.0.at ≡ 0 + (length bytes - length rest) = omega (arith, ends, ap length c.2) in
    record { place = c.0; is = c.1; at = here_is c.0 rest (0 + (length bytes - length rest)) c.2 k }

-- ---- a command by what stands before its parameters, and them

abbrev whole : Result (Command × Here) Refusal → Result Command Refusal
whole o = (o >>= finish buffer) >>= λ x. ok x.0

pub areas_fault : (bytes : List ℕ) (e : Refusal) → read 0 before_params (at_start bytes) ≡ Err e → read_all command bytes ≡ Err e
areas_fault bytes e is = ap whole (before_fails (at_start bytes) e is)

pub params_fault : (bytes : List ℕ) (x : Checked) (h : Here) (e : Refusal)
    → read 0 before_params (at_start bytes) ≡ Ok (x, h) → read 0 (parameters x.header.code) h ≡ Err e
    → read_all command bytes ≡ Err e
params_fault bytes x h e is bad = ap whole (command_goes_on (at_start bytes) (x, h) is) ∙ rw bad refl

pub left_over : (bytes : List ℕ) (x : Checked) (h g : Here) (p : Params)
    → read 0 before_params (at_start bytes) ≡ Ok (x, h) → read 0 (parameters x.header.code) h ≡ Ok (p, g)
    → eqb (length g.rest) 0 ≡ false
    → read_all command bytes ≡ Err (record { code = 0x095; at = g.at })
left_over bytes x h g p is good more = ap whole (command_goes_on (at_start bytes) (x, h) is) ∙ rw (good, more) refl

pub command_is : (bytes : List ℕ) (x : Checked) (h g : Here) (p : Params)
    → read 0 before_params (at_start bytes) ≡ Ok (x, h) → read 0 (parameters x.header.code) h ≡ Ok (p, g)
    → eqb (length g.rest) 0 ≡ true
    → read_all command bytes ≡ Ok (with_auths (body_from x.handles p) x.auths)
command_is bytes x h g p is good none = ap whole (command_goes_on (at_start bytes) (x, h) is) ∙ rw (good, none) refl

abbrev wrapped : ℕ → (Params → Command) → Result Params Refusal → Result Command Refusal
wrapped k wrap (Ok p) = Ok (wrap p)
wrapped k wrap (Err e) = Err (later_refusal k e)

wraps : (k : ℕ) (o : Result (Params × Here) Refusal) (wrap : Params → Command)
    → whole (later k o >>= λ p. at_command (wrap p.0) p.1) ≡ wrapped k wrap ((o >>= finish buffer) >>= λ x. ok x.0)
wraps k (Err e) wrap = refl
wraps k (Ok x) wrap = go (eqb (length x.1.rest) 0)
  where
    go : (b : Bool) → (cond b (at_command (wrap x.0) (later_place k x.1)) (err {A = Command × Here} (record { code = 0x095; at = x.1.at + k })) >>= λ x. ok x.0)
        ≡ wrapped k wrap (cond b (ok x) (err {A = Params × Here} (record { code = 0x095; at = x.1.at })) >>= λ x. ok x.0)
    go true = refl
    go false = refl

abbrev command_of : Checked → Params → Command
command_of x p = with_auths (body_from x.handles p) x.auths

-- the command is read as its parameters are, further on
all_later : (bytes rest : List ℕ) (x : Checked) → Before bytes rest x
    → read_all command bytes ≡ wrapped (length bytes - length rest) (command_of x) (read_all (parameters x.header.code) rest)
all_later bytes rest x b =
    ap whole (command_goes_on (at_start bytes) (x, b.place) b.is
    ∙ ap (λ (g : Here). behind (x, g)) b.at
    ∙ ap (λ o. o >>= λ p. at_command (command_of x p.0) p.1) (read_later (length bytes - length rest) 0 (parameters x.header.code) (at_start rest)))
    ∙ wraps (length bytes - length rest) (read 0 (parameters x.header.code) (at_start rest)) (command_of x)

pub of_params : (bytes rest : List ℕ) (x : Checked) (e : Refusal) → Spells (cut before_params) (x, rest) bytes → Fault (parameters x.header.code) rest e
    → Fault command bytes (later_refusal (length bytes - length rest) e)
of_params bytes rest x e s f =
    read_fault buffer buffer_sound command bytes _ (all_later bytes rest x (before bytes rest x s)
    ∙ ap (wrapped (length bytes - length rest) (command_of x)) (fault_read buffer buffer_sound (parameters x.header.code) rest e f))

pub of_parts : (bytes rest : List ℕ) (x : Checked) (p : Params) → Spells (cut before_params) (x, rest) bytes → Spells (parameters x.header.code) p rest
    → Spells command (with_auths (body_from x.handles p) x.auths) bytes
of_parts bytes rest x p s t =
    read_spells buffer buffer_sound command bytes _ (all_later bytes rest x (before bytes rest x s)
    ∙ ap (wrapped (length bytes - length rest) (command_of x)) (spells_read buffer buffer_sound (parameters x.header.code) rest p t))
