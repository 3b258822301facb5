-- What was found in the words, by the getters and by the matches.
use mathlib.Core.Path.{fun_ext}
use Rattle.std.proofs.Common.{◌≡◌, ap, sym, subst, refl, ◌∙◌, ℕ, Bool, true, false, inl, inr, codes, List, [], map, ◌⊎◌}
use Rattle.std.proofs.Common.{Option, Some, None, option_map}
use Rattle.std.specs.Prelude.{◌&&◌, not, is_some, Box, Result, Ok, Err, IfOk, IfErr, MatchResult}
use Rattle.std.specs.Box.{box_value}
use Rattle.std.specs.Str.{bytes_eq}
use Rattle.clap.specs.Matches.{subcommand_name_of, first_value}
use Rattle.clap.specs.Walk.{Row, Text, first_of, rows_of}
use Rattle.clap.specs.Simple.{App, HasMatchesOf, app_of, is_simple, subcommand_of, subcommand_rows, subcommand_rows_of}
use Rattle.clap.specs.declared.parser.matches.Found.{Found}
use Rattle.clap.specs.declared.parser.matches.ArgMatches.TheViews.{out-ArgMatches, out-SubCommand}
use Rattle.clap.specs.declared.parser.matches.ArgMatches.{ArgMatches}
use Rattle.clap.specs.declared.parser.matches.SubCommand.{SubCommand}
use Rattle.clap.specs.declared.builder.command.Command.{Command}
use Rattle.clap.specs.declared.error.kind.ErrorKind.TheVariants.{OutOfMemory}
use Rattle.clap.specs.declared.error.kind.ErrorKind.{ErrorKind}
use Rattle.clap.specs.Faults.{fault_of, is_simple_and_free}
use Rattle.clap.specs.Kinds.{IsAmong, Kinds}
use Rattle.clap.specs.Takes.{takes}
use Rattle.clap.proofs.OnLiterals.{clap_on_literals}
use Rattle.clap.proofs.WalkLemmas.{first_value-rows}
use Rattle.tpm_names.specs.Selections.{IsRegisterList}
use Rattle.tpm_names.specs.declared.selection.RegisterList.{RegisterList}
use Rattle.tpm_options.specs.declared.CheckOptions.{CheckOptions}
use Rattle.tpm_options.specs.declared.CheckTask.{CheckTask}
use Rattle.tpm_options.specs.declared.EventsTask.{EventsTask}
use Rattle.tpm_options.specs.declared.LogTask.{LogTask}
use Rattle.tpm_options.specs.declared.PacketsTask.{PacketsTask}
use Rattle.tpm_args.specs.declared.task.Task.TheVariants.{Show, ShowCapture, ShowPackets, ShowNv, Build, Run, Explain}
use Rattle.tpm_args.specs.declared.task.Task.TheVariants.{ExplainName, Check, CheckListed, Events, EventsHeader}
use Rattle.tpm_args.specs.declared.task.Task.{Task}
use Rattle.tpm_args.specs.declared.stop.Stop.TheVariants.{Help, Usage, Memory}
use Rattle.tpm_args.specs.declared.stop.Stop.{Stop}
use Rattle.tpm_words.specs.Program.{program_app}
use Rattle.tpm_args.specs.Task.{Asks, AsksNothing, AreOptions, AsksWith, IsValueIf, is_bare, is_given, is_uncompared}
use Rattle.tpm_args.specs.Stop.{IsHelp, Refuses, StopsFor}
use Rattle.tpm_args.specs.inner.Stop.{IsMemoryOr}
use Rattle.tpm_args.specs.inner.Task.{AsksNothingWith}

some : {A : Type 0} (x y : A) → (let a : Option A = Some x in a) ≡ Some y → x ≡ y
some x y e = cc

given_and_not : {A : Type 0} (o : Option A) (x : A) → o ≡ Some x → o ≡ None → ⊥
given_and_not o x is none = let z : ⊥ = cc in z

opposite_ends : true ≡ false → ⊥
opposite_ends e = absurd cc

-- The name of a subcommand is no other one.
other : (name met : Text) → bytes_eq met met ≡ true → bytes_eq name met ≡ false → met ≡ name → ⊥
other name met same differs e = opposite_ends (sym same ∙ (ap (λ (x : Text). bytes_eq x met) e ∙ differs))

-- No task has the name of `check` but its two.
asks_no_check : (value : Text → Option Text)
    → ((task : CheckTask) → AsksWith (codes "check") value (Check task) → ⊥)
    → ((task : LogTask) → AsksWith (codes "check") value (CheckListed task) → ⊥)
    → AsksNothingWith (codes "check") value
asks_no_check value checks lists (Check task) h = checks task h
asks_no_check value checks lists (CheckListed task) h = lists task h
asks_no_check value checks lists (Show reply fields hex) h = absurd (other (codes "show") (codes "check") refl refl h.0)
asks_no_check value checks lists (ShowCapture task) h = absurd (other (codes "show") (codes "check") refl refl h.0)
asks_no_check value checks lists (ShowPackets task) h = absurd (other (codes "show") (codes "check") refl refl h.0)
asks_no_check value checks lists (ShowNv file) h = absurd (other (codes "show") (codes "check") refl refl h.0)
asks_no_check value checks lists (Build code handles sessions parameters) h = absurd (other (codes "build") (codes "check") refl refl h.0)
asks_no_check value checks lists (Run owner greatest) h = absurd (other (codes "run") (codes "check") refl refl h.0)
asks_no_check value checks lists (Explain code) h = absurd (other (codes "explain") (codes "check") refl refl h.0)
asks_no_check value checks lists (ExplainName word) h = absurd (other (codes "explain") (codes "check") refl refl h.0)
asks_no_check value checks lists (Events task) h = absurd (other (codes "events") (codes "check") refl refl h.0)
asks_no_check value checks lists (EventsHeader task) h = absurd (other (codes "events") (codes "check") refl refl h.0)

-- No task of `check` has options whose words are not in order.
pub not_asked : (value : Text → Option Text) → ((options : CheckOptions) → AreOptions value options → ⊥) → AsksNothingWith (codes "check") value
not_asked value none = asks_no_check value (λ task h. none task.options h.2) (λ task h. none h.1.0 h.1.1)

-- Neither has words that ask for the banks that are listed, but not for these alone.
pub not_listed_alone : (value : Text → Option Text) → is_given (value (codes "listed")) ≡ true
    → (is_uncompared value && not (is_given (value (codes "extends")))) ≡ false → AsksNothingWith (codes "check") value
not_listed_alone value given others =
    asks_no_check value (λ task h. opposite_ends (sym given ∙ h.3)) (λ task h. opposite_ends (sym h.3 ∙ others))

-- Neither has words without a log.
pub no_log_to_check : (value : Text → Option Text) → value (codes "LOG") ≡ None → AsksNothingWith (codes "check") value
no_log_to_check value none =
    asks_no_check value (λ task h. given_and_not _ _ h.1.0 none) (λ task h. given_and_not _ _ h.4.0 none)

-- No task has the name of `events` but its two.
asks_no_events : (value : Text → Option Text)
    → ((task : EventsTask) → AsksWith (codes "events") value (Events task) → ⊥)
    → ((task : LogTask) → AsksWith (codes "events") value (EventsHeader task) → ⊥)
    → AsksNothingWith (codes "events") value
asks_no_events value lists tells (Events task) h = lists task h
asks_no_events value lists tells (EventsHeader task) h = tells task h
asks_no_events value lists tells (Check task) h = absurd (other (codes "check") (codes "events") refl refl h.0)
asks_no_events value lists tells (CheckListed task) h = absurd (other (codes "check") (codes "events") refl refl h.0)
asks_no_events value lists tells (Show reply fields hex) h = absurd (other (codes "show") (codes "events") refl refl h.0)
asks_no_events value lists tells (ShowCapture task) h = absurd (other (codes "show") (codes "events") refl refl h.0)
asks_no_events value lists tells (ShowPackets task) h = absurd (other (codes "show") (codes "events") refl refl h.0)
asks_no_events value lists tells (ShowNv file) h = absurd (other (codes "show") (codes "events") refl refl h.0)
asks_no_events value lists tells (Build code handles sessions parameters) h = absurd (other (codes "build") (codes "events") refl refl h.0)
asks_no_events value lists tells (Run owner greatest) h = absurd (other (codes "run") (codes "events") refl refl h.0)
asks_no_events value lists tells (Explain code) h = absurd (other (codes "explain") (codes "events") refl refl h.0)
asks_no_events value lists tells (ExplainName word) h = absurd (other (codes "explain") (codes "events") refl refl h.0)

-- No task of `events` has options whose words are not in order.
pub not_listed : (value : Text → Option Text) → ((options : CheckOptions) → AreOptions value options → ⊥) → AsksNothingWith (codes "events") value
not_listed value none =
    asks_no_events value (λ task h. none task.options h.1) (λ task h. none h.1.0 h.1.1)

-- Neither has words without a log.
pub no_log_to_list : (value : Text → Option Text) → value (codes "LOG") ≡ None → AsksNothingWith (codes "events") value
no_log_to_list value none =
    asks_no_events value (λ task h. given_and_not _ _ h.4 none) (λ task h. given_and_not _ _ h.4.0 none)

-- Where it is bare no registers are listed.
bare_registers : (registers attest : Option Text) (places digests event-data : Bool)
    → (((((not (is_some registers) && not (is_some attest)) && not places) && not digests) && not event-data) ≡ true)
    → IsValueIf IsRegisterList registers None
bare_registers None attest places digests event-data h = refl
bare_registers (Some text) attest places digests event-data h = let z : ⊥ = cc in absurd z

-- Neither has a list of registers that is none.
pub no_registers : (value : Text → Option Text) (given : Option Text) → given ≡ value (codes "register")
    → ((registers : Option RegisterList) → IsValueIf IsRegisterList given registers → ⊥) → AsksNothingWith (codes "events") value
no_registers value given is none =
    let no : (registers : Option RegisterList) → IsValueIf IsRegisterList (value (codes "register")) registers → ⊥ =
    λ registers h. none registers (subst (λ (g : Option Text). IsValueIf IsRegisterList g registers) (sym is) h) in
    asks_no_events value (λ task h. no task.listing.registers h.5.0)
    (λ task h. no None (bare_registers (value (codes "register")) (value (codes "attest"))
    (is_given (value (codes "places"))) (is_given (value (codes "digests"))) (is_given (value (codes "data"))) h.3))

-- Neither has words that ask for the header, but not for it alone.
pub no_header_alone : (value : Text → Option Text) → is_given (value (codes "header")) ≡ true → is_bare value ≡ false
    → AsksNothingWith (codes "events") value
no_header_alone value given others =
    asks_no_events value (λ task h. opposite_ends (sym given ∙ h.2)) (λ task h. opposite_ends (sym h.3 ∙ others))

-- Where packets are given, a task of `show` is of them.
pub no_packets : (value : Text → Option Text) (file : Text) → value (codes "pcap") ≡ Some file
    → ((task : PacketsTask) → AsksWith (codes "show") value (ShowPackets task) → ⊥) → AsksNothingWith (codes "show") value
no_packets value file given none (ShowPackets task) h = none task h
no_packets value file given none (Show reply fields hex) h = given_and_not _ file given h.9
no_packets value file given none (ShowCapture task) h = given_and_not _ file given h.8
no_packets value file given none (ShowNv kept) h = given_and_not _ file given h.8
no_packets value file given none (Check task) h = absurd (other (codes "check") (codes "show") refl refl h.0)
no_packets value file given none (CheckListed task) h = absurd (other (codes "check") (codes "show") refl refl h.0)
no_packets value file given none (Build code handles sessions parameters) h = absurd (other (codes "build") (codes "show") refl refl h.0)
no_packets value file given none (Run owner greatest) h = absurd (other (codes "run") (codes "show") refl refl h.0)
no_packets value file given none (Explain code) h = absurd (other (codes "explain") (codes "show") refl refl h.0)
no_packets value file given none (ExplainName word) h = absurd (other (codes "explain") (codes "show") refl refl h.0)
no_packets value file given none (Events task) h = absurd (other (codes "events") (codes "show") refl refl h.0)
no_packets value file given none (EventsHeader task) h = absurd (other (codes "events") (codes "show") refl refl h.0)

-- No task has the name of `run` but its own.
pub asks_no_run : (value : Text → Option Text)
    → ((owner : List ℕ) (greatest : ℕ) → AsksWith (codes "run") value (Run owner greatest) → ⊥) → AsksNothingWith (codes "run") value
asks_no_run value runs (Run owner greatest) h = runs owner greatest h
asks_no_run value runs (Show reply fields hex) h = absurd (other (codes "show") (codes "run") refl refl h.0)
asks_no_run value runs (ShowCapture task) h = absurd (other (codes "show") (codes "run") refl refl h.0)
asks_no_run value runs (ShowPackets task) h = absurd (other (codes "show") (codes "run") refl refl h.0)
asks_no_run value runs (ShowNv file) h = absurd (other (codes "show") (codes "run") refl refl h.0)
asks_no_run value runs (Build code handles sessions parameters) h = absurd (other (codes "build") (codes "run") refl refl h.0)
asks_no_run value runs (Explain code) h = absurd (other (codes "explain") (codes "run") refl refl h.0)
asks_no_run value runs (ExplainName word) h = absurd (other (codes "explain") (codes "run") refl refl h.0)
asks_no_run value runs (Check task) h = absurd (other (codes "check") (codes "run") refl refl h.0)
asks_no_run value runs (CheckListed task) h = absurd (other (codes "check") (codes "run") refl refl h.0)
asks_no_run value runs (Events task) h = absurd (other (codes "events") (codes "run") refl refl h.0)
asks_no_run value runs (EventsHeader task) h = absurd (other (codes "events") (codes "run") refl refl h.0)

is_named : (name met : Text) → bytes_eq met met ≡ true → name ≡ met → bytes_eq name met ≡ false → ⊥
is_named name met same e differs = opposite_ends (sym same ∙ (sym (ap (λ (x : Text). bytes_eq x met) e) ∙ differs))

-- No task has another name.
pub asks_no_other : (name : Text) (value : Text → Option Text) → bytes_eq name (codes "show") ≡ false
    → bytes_eq name (codes "build") ≡ false → bytes_eq name (codes "run") ≡ false → bytes_eq name (codes "explain") ≡ false
    → bytes_eq name (codes "check") ≡ false → bytes_eq name (codes "events") ≡ false → AsksNothingWith name value
asks_no_other name value show build run explain check events (Show reply fields hex) h = is_named name (codes "show") refl h.0 show
asks_no_other name value show build run explain check events (ShowCapture task) h = is_named name (codes "show") refl h.0 show
asks_no_other name value show build run explain check events (ShowPackets task) h = is_named name (codes "show") refl h.0 show
asks_no_other name value show build run explain check events (ShowNv file) h = is_named name (codes "show") refl h.0 show
asks_no_other name value show build run explain check events (Build code handles sessions parameters) h = is_named name (codes "build") refl h.0 build
asks_no_other name value show build run explain check events (Run owner greatest) h = is_named name (codes "run") refl h.0 run
asks_no_other name value show build run explain check events (Explain code) h = is_named name (codes "explain") refl h.0 explain
asks_no_other name value show build run explain check events (ExplainName word) h = is_named name (codes "explain") refl h.0 explain
asks_no_other name value show build run explain check events (Check task) h = is_named name (codes "check") refl h.0 check
asks_no_other name value show build run explain check events (CheckListed task) h = is_named name (codes "check") refl h.0 check
asks_no_other name value show build run explain check events (Events task) h = is_named name (codes "events") refl h.0 events
asks_no_other name value show build run explain check events (EventsHeader task) h = is_named name (codes "events") refl h.0 events

-- the values of the words, by their rows
values : (f : Found) (rows : List Row) → rows ≡ rows_of f → (λ id. first_of id rows) ≡ first_value f
values f rows is = fun_ext (λ id. ap (first_of id) is ∙ sym (first_value-rows f id))

met : (o : Option (Text × List Row)) (name : Text) (f : Found) (t : Task) → option_map
    (λ (p : Text × List Row). p.0) o ≡ Some name → option_map (λ (p : Text × List Row). p.1) o ≡ Some (rows_of f)
    → AsksWith name (first_value f) t → Asks o t
met None name f t n r h = absurd (let z : ⊥ = cc in z)
met (Some p) name f t n r h =
    subst (λ (x : Text). AsksWith x (λ id. first_of id p.1) t) (sym (some p.0 name n))
    (subst (λ (value : Text → Option Text). AsksWith name value t) (sym (values f p.1 (some p.1 (rows_of f) r))) h)

met_back : (o : Option (Text × List Row)) (name : Text) (f : Found) (t : Task) → option_map
    (λ (p : Text × List Row). p.0) o ≡ Some name → option_map (λ (p : Text × List Row). p.1) o ≡ Some (rows_of f)
    → Asks o t → AsksWith name (first_value f) t
met_back None name f t n r h = absurd h
met_back (Some p) name f t n r h =
    subst (λ (value : Text → Option Text). AsksWith name value t) (values f p.1 (some p.1 (rows_of f) r))
    (subst (λ (x : Text). AsksWith x (λ id. first_of id p.1) t) (some p.0 name n) h)

name_in : {Z : Type 0} (o : Option (Box SubCommand Z)) → option_map (λ (p : Text × List Row). p.0) (subcommand_rows o)
    ≡ option_map (λ (b : Box SubCommand Z). (out-SubCommand (box_value b)).name.now) o
name_in None = refl
name_in (Some b) = refl

named : (m : ArgMatches) → option_map (λ (p : Text × List Row). p.0) (subcommand_rows_of m) ≡ subcommand_name_of m
named m = name_in (out-ArgMatches m).subcommand

-- The task of a subcommand that was met is that of the matches.
pub asks : (m : ArgMatches) (name : Text) (f : Found) (t : Task) → subcommand_name_of m ≡ Some name
    → option_map (λ (p : Text × List Row). p.1) (subcommand_rows_of m) ≡ Some (rows_of f)
    → AsksWith name (first_value f) t → Asks (subcommand_rows_of m) t
asks m name f t n r h = met (subcommand_rows_of m) name f t (named m ∙ n) r h

pub asks_nothing : (m : ArgMatches) (name : Text) (f : Found) → subcommand_name_of m ≡ Some name
    → option_map (λ (p : Text × List Row). p.1) (subcommand_rows_of m) ≡ Some (rows_of f)
    → AsksNothingWith name (first_value f) → AsksNothing (subcommand_rows_of m)
asks_nothing m name f n r none = λ t h. none t (met_back (subcommand_rows_of m) name f t (named m ∙ n) r h)

-- an answer, where the one follows from the other
pub memory_or : {N M : Type 0} (stop : Stop) → (N → M) → IsMemoryOr N stop → IsMemoryOr M stop
memory_or (Help text) f h = h
memory_or (Usage text) f h = f h
memory_or Memory f h = tt

pub result_then : {A : Type 0} (o : Result A Stop) {N M : Type 0} {P Q : A → Type 0} → MatchResult o P (IsMemoryOr N)
    → (N → M) → ((x : A) → P x → Q x) → MatchResult o Q (IsMemoryOr M)
result_then (Ok x) h f g = g x h
result_then (Err stop) h f g = memory_or stop f h

-- clap says exactly what it finds in the program's words
pub simple : is_simple program_app ≡ true
unfolding clap_on_literals
simple = refl

-- what clap met in the words of these texts is what the program says
pub met_is : {S : Type 0} (bytes : S → Text) (m : ArgMatches) (program : Command)
    (texts all : List S) (words : List Text) → app_of program ≡ program_app
    → HasMatchesOf (app_of program) (map bytes texts) m
    → texts ≡ all → map bytes all ≡ words → subcommand_rows_of m ≡ subcommand_of program_app words
met_is bytes m program texts all words same has are is =
    (has (ap is_simple same ∙ simple)).1 ∙ ap (λ (a : App). subcommand_of a (map bytes texts)) same
    ∙ ap (subcommand_of program_app) (ap (map bytes) are ∙ is)

-- ---- words that are refused

-- clap says which kinds of error the program's words may have
pub simple_and_free : is_simple_and_free program_app ≡ true
unfolding clap_on_literals
simple_and_free = refl

-- those that it says of these texts
pub faults_are : {S : Type 0} (bytes : S → Text) (program : Command)
    (texts all : List S) (words : List Text) → app_of program ≡ program_app → texts ≡ all → map bytes all ≡ words
    → fault_of (app_of program) (map bytes texts) ≡ fault_of program_app words
faults_are bytes program texts all words same are is =
    ap (λ (a : App). fault_of a (map bytes texts)) same ∙ ap (fault_of program_app) (ap (map bytes) are ∙ is)

-- clap finds no fault in the words
refuses : (words : List Text) (stop : Stop) → fault_of program_app words ≡ []
    → IsMemoryOr (AsksNothing (subcommand_of program_app words)) stop → Refuses words stop
refuses words (Help text) none h = absurd h
refuses words (Usage text) none h = ((λ _. h), inr (none, h))
refuses words Memory none h = tt

-- the task or its want, by what clap met in the words
pub task_asked : (met asked : Option (Text × List Row)) (r : Result Task Stop) → met ≡ asked
    → MatchResult r (λ t. Asks met t) (λ stop. IsMemoryOr (AsksNothing met) stop) → IfOk r (λ t. Asks asked t)
task_asked met asked (Ok t) same h = subst (λ (o : Option (Text × List Row)). Asks o t) same h
task_asked met asked (Err stop) same h = tt

pub task_refused : (met : Option (Text × List Row)) (words : List Text) (r : Result Task Stop)
    → met ≡ subcommand_of program_app words → fault_of program_app words ≡ []
    → MatchResult r (λ t. Asks met t) (λ stop. IsMemoryOr (AsksNothing met) stop) → IfErr r (λ stop. Refuses words stop)
task_refused met words (Ok t) same none h = tt
task_refused met words (Err stop) same none h = refuses words stop none (memory_or stop (subst AsksNothing same) h)

is_false : (b : Bool) → (b ≡ true → ⊥) → b ≡ false
is_false true f = absurd (f refl)
is_false false f = refl

is_no_help : (kind : ErrorKind) → IsHelp kind → kind ≡ OutOfMemory → ⊥
is_no_help kind (inl h) e = let z : ⊥ = cc in z
is_no_help kind (inr h) e = let z : ⊥ = cc in z

among : (kind : ErrorKind) (kinds : Kinds) → (kind ≡ OutOfMemory → ⊥) → (kind ≡ OutOfMemory) ⊎ IsAmong kind kinds → IsAmong kind kinds
among kind kinds other (inl memory) = absurd (other memory)
among kind kinds other (inr one) = one

-- clap refuses the words
pub stops : (words : List Text) (kind : ErrorKind) (stop : Stop) → (takes program_app words ≡ true → kind ≡ OutOfMemory)
    → (kind ≡ OutOfMemory) ⊎ IsAmong kind (fault_of program_app words) → StopsFor kind stop → Refuses words stop
stops words kind (Help text) passes fails h =
    let other = is_no_help kind h in
    (is_false (takes program_app words) (λ taken. other (passes taken)), (kind, among kind (fault_of program_app words) other fails, h))
stops words kind (Usage text) passes fails h =
    ((λ taken. absurd (h.2 (passes taken))), inl (kind, among kind (fault_of program_app words) h.2 fails, h))
stops words kind Memory passes fails h = tt

-- ---- a list of registers

-- A text that lists none is no list that is given.
pub no_list : (given : Option Text) (text : Text) → given ≡ Some text → ((list : RegisterList) → IsRegisterList text list → ⊥)
    → (r : Option RegisterList) → IsValueIf IsRegisterList given r → ⊥
no_list None text is none r h = let z : ⊥ = cc in z
no_list (Some t) text is none None h = h
no_list (Some t) text is none (Some list) h = none list (subst (λ (x : Text). IsRegisterList x list) (some t text is) h)
