-- Where `check --attest --allow` ends with status 0, the digests of every log that the quote vouches for are on the list.
use Rattle.std.proofs.Common.{◌≡◌, ◌<◌, ◌≤◌, ◌+◌, ℕ, zero, suc, Bool, true, false, eqb, eq-eqb, List, [], ◌∷◌, ◌++◌, length, map}
use Rattle.std.proofs.Common.{Option, Some, None, Ok, Err, refl, sym, ap, subst, ◌∙◌, arith, inl, inr}
use Rattle.std.proofs.lemmas.Bool.{and_parts, eqb-true}
use Rattle.std.proofs.lemmas.List.{nil_from_length}
use Rattle.std.proofs.lemmas.Slice.Eq.{bytes_eq-Decides}
use Rattle.std.specs.Prelude.{◌&&◌, not, codes, find, option_map, unwrap_or, filter, if◌then◌else◌, nat_lt, ◌==◌}
use Rattle.std.specs.Option.{option_or}
use Rattle.std.specs.Str.{bytes_eq}
use Rattle.tpm_wire.specs.Path.{Spells}
use Rattle.tpm_wire.specs.Buffers.{buffer}
use Rattle.tpm_wire.proofs.Buffers.{buffer_sound}
use Rattle.tpm_wire.proofs.Whole.{exactly_one}
use Rattle.tpm_types.specs.declared.alg.Alg.TheVariants.{Sha1, Sha256, Sha384}
use Rattle.tpm_types.specs.declared.alg.Alg.{Alg}
use Rattle.tpm_types.specs.declared.attest.Attest.{Attest}
use Rattle.tpm_types.specs.declared.attest.QuoteInfo.{QuoteInfo}
use Rattle.tpm_types.specs.declared.tpms.Selection.{Selection}
use Rattle.tpm_types.specs.Alg.{alg_number, all_algs}
use Rattle.tpm_types.specs.Attest.{attest}
use Rattle.tpm_hmac.specs.Among.{IsAmong}
use Rattle.tpm_pcr.specs.Registers.{Registers, all_registers, composite, value_in}
use Rattle.tpm_quote.specs.declared.attest.NotSelected.{NotSelected}
use Rattle.tpm_quote.specs.Attests.{IsQuoteOf, first_not_selected, is_among, register_of}
use Rattle.tpm_event_data.specs.Events.{record_size}
use Rattle.tpm_log.specs.Changes.{AreAfter}
use Rattle.tpm_log.specs.Events.{ParsedLog, Parses, shown}
use Rattle.tpm_log.specs.Records.{LogRecord}
use Rattle.tpm_log.specs.Replays.{Replays}
use Rattle.tpm_vouched.specs.declared.allowed.AllowedDigest.{AllowedDigest}
use Rattle.tpm_vouched.specs.Allowed.{AreAllowed, is_unknown, names}
use Rattle.tpm_vouched.specs.Vouched.{QuotedLog, ReadLog}
use Rattle.tpm_vouched.proofs.Allowing.{all_allowed, allowed_quoted}
use Rattle.tpm_options.specs.declared.CheckOptions.{CheckOptions}
use Rattle.tpm_output.specs.declared.status.Status.TheVariants.{Done, Refused}
use Rattle.tpm_output.specs.declared.status.Status.{Status}
use Rattle.tpm_output.specs.InputLines.{most_bytes}
use Rattle.tpm_output.specs.Status.{both}
use Rattle.tpm_lists.specs.declared.allow_file.AllowFile.TheVariants.{TooLong}
use Rattle.tpm_lists.specs.AllowFiles.{list_said, said_by}
use Rattle.tpm_lists.specs.AllowLines.{AllowRead, allowed_in}
use Rattle.tpm_check.specs.AllowTold.{first_lacking, first_lacking_of, is_lacking, on_lacking, on_unknown}
use Rattle.tpm_check.specs.AllowedBoot.{SaysBeside, VouchedLog, boot_if, on_boot, on_digests, on_list, on_selected}
use Rattle.tpm_check.specs.AllowedLogs.{AllowedByQuote, AllowedThere, ListedLog}
use Rattle.tpm_check.specs.Check.{hash_of}
use Rattle.tpm_check.specs.CheckAttest.{ChecksAttest, OnDone, Says, Selects, behind, covering, given, is_done, judged, selected}
use Rattle.tpm_check.specs.Compare.{Beside, Verdict, beside, fault_told, printed, refused, status_if}
use Rattle.tpm_lists.specs.Extensions.{Extension, extension, extensions_from, extensions_in}
use Rattle.tpm_check.specs.QuotedBoot.{ChecksBoot}
use Rattle.tpm_lists.proofs.Below.{list_below, named_below}

-- ---- statuses

not_done : Done ≡ Refused → ⊥
not_done e = let z : ⊥ = cc in z

both_done : (a b : Status) → both a b ≡ Done → (a ≡ Done) × (b ≡ Done)
both_done Done b is = (refl, is)
both_done Refused b is = absurd (not_done (sym is))

done_if : (b : Bool) → status_if b ≡ Done → b ≡ true
done_if true is = refl
done_if false is = absurd (not_done (sym is))

-- ---- a quote that is the one asked for

module _ (value : Alg → ℕ → List ℕ) (quote : QuoteInfo) where
  abbrev is_of : Alg → Bool
  is_of hash = bytes_eq (composite hash value quote.selections) quote.digest

  by_hash : (o : Option Alg) → unwrap_or (option_map is_of o) false ≡ true → (hash : Alg) × (o ≡ Some hash) × IsQuoteOf hash value quote
  by_hash None is = absurd (let z : ⊥ = cc in z)
  by_hash (Some hash) is = (hash, refl, (bytes_eq-Decides (composite hash value quote.selections) quote.digest).0 is)

-- A name or a nonce that is given is that of the quote.
same_given : (one : List ℕ) (o : Option (List ℕ)) (otherwise : Bool) → unwrap_or (option_map (bytes_eq one) o) otherwise ≡ true → one ≡ unwrap_or o one
same_given one None otherwise is = refl
same_given one (Some other) otherwise is = (bytes_eq-Decides one other).0 is

covers : (any : Bool) (o : Option NotSelected) → is_done any (covering o) ≡ true → o ≡ None
covers any None is = refl
covers any (Some r) is = absurd (let z : ⊥ = cc in z)

-- All that is required is selected.
all_selected : (any : Bool) (quoted : List Selection) (required : Option (List Selection)) → is_done any (selected required quoted) ≡ true
    → first_not_selected quoted (unwrap_or required []) ≡ None
all_selected any quoted None is = refl
all_selected any quoted (Some required) is = covers any (first_not_selected quoted required) is

-- a quote that the bytes spell and that is the one asked for
record Accepted (o : CheckOptions) (value : Alg → ℕ → List ℕ) (signed : List ℕ) : Type 0 where
  quote : Attest
  spelled : Spells attest quote signed
  hash : Alg
  signer : quote.signer ≡ unwrap_or (given o.signer) quote.signer
  of_hash : hash_of o.hash quote.quote.digest ≡ Some hash
  nonce : quote.extra_data ≡ unwrap_or (given o.nonce) quote.extra_data
  required : first_not_selected quote.quote.selections (unwrap_or o.required []) ≡ None
  is : IsQuoteOf hash value quote.quote

accepted : (b : Beside) (o : CheckOptions) (signed : List ℕ) (v : Verdict) → ChecksAttest b o signed v → v.status ≡ Done → Accepted o b.value signed
accepted b o signed v (inl (a, spelled, says)) done =
    let j = judged b o a in
    let covers = is_done o.any_selection j.selection in
    let same = unwrap_or j.quote false in
    let all = and_parts (unwrap_or j.signer true) (unwrap_or j.nonce o.any_nonce && (covers && same)) (done_if _ (sym says.0 ∙ done)) in
    let behind_signer = and_parts (unwrap_or j.nonce o.any_nonce) (covers && same) all.1 in
    let behind_nonce = and_parts covers same behind_signer.1 in
    let found = by_hash b.value a.quote (hash_of o.hash a.quote.digest) behind_nonce.1 in
    record {
      quote = a;
      spelled = spelled;
      hash = found.0;
      signer = same_given a.signer (given o.signer) true all.0;
      of_hash = found.1;
      nonce = same_given a.extra_data (given o.nonce) o.any_nonce behind_signer.0;
      required = all_selected o.any_selection a.quote.selections o.required behind_nonce.0;
      is = found.2;
    }
accepted b o signed v (inr (refusal, fault, said)) done = absurd (not_done (sym done ∙ said.0))

-- The bytes spell one quote.
one_selection : (signed : List ℕ) (a : Attest) (selections : List Selection) → Spells attest a signed → Selects signed selections
    → selections ≡ a.quote.selections
one_selection signed a selections spelled (inl (b, other, is)) =
    is ∙ ap (λ (x : Attest). x.quote.selections) ((exactly_one buffer buffer_sound attest signed).one_value b a other spelled)
one_selection signed a selections spelled (inr (refusal, fault, is)) =
    absurd ((exactly_one buffer buffer_sound attest signed).not_both a refusal spelled fault)

-- ---- registers that are selected

same_number : (n : ℕ) → eqb n n ≡ true
same_number n = eq-eqb n n refl

names_first : (a : AllowedDigest) (list : List AllowedDigest) → names (a ∷ list) a.digest.0 a.register ≡ true
names_first a list = rw (same_number (alg_number a.digest.0), same_number a.register) refl

-- so many numbers from the first one
abbrev rising : ℕ → ℕ → List ℕ
rising first zero = []
rising first (suc n) = first ∷ rising (suc first) n

none_from : (p : ℕ → Bool) (first n q : ℕ) → find p (rising first n) ≡ None → first ≤ q → q < first + n → p q ≡ false
none_from p first zero q none least less = absurd (let z : ⊥ = omega (arith, least, less) in z)
none_from p first (suc n) q none least less = go (none_from p (suc first) n q) (p first) refl none (eqb q first) refl
  where
    go : (find p (rising (suc first) n) ≡ None → suc first ≤ q → q < suc first + n → p q ≡ false) → (b : Bool) → p first ≡ b
        → (if b then Some first else find p (rising (suc first) n)) ≡ None → (c : Bool) → eqb q first ≡ c → p q ≡ false
    go more true is e c there = absurd (let z : ⊥ = cc in z)
    go more false is e true there = ap p (eqb-true q first there) ∙ is
    go more false is e false there =
        let apart : q ≡ first → ⊥ = λ same. let z : true ≡ false = sym (eq-eqb q first same) ∙ there in let w : ⊥ = cc in w in
        more e (omega (arith, least, apart)) (omega (arith, less))

neither : {A : Type 0} (a b : Option A) → option_or a b ≡ None → (a ≡ None) × (b ≡ None)
neither None b e = (refl, e)
neither (Some x) b e = absurd (let z : ⊥ = cc in z)

none_mapped : {A B : Type 0} (f : A → B) (o : Option A) → option_map f o ≡ None → o ≡ None
none_mapped f None e = refl
none_mapped f (Some x) e = absurd (let z : ⊥ = cc in z)

known : (a b : Bool) → a ≡ true → (a && not b) ≡ false → b ≡ true
known a true is e = refl
known true false is e = absurd (let z : ⊥ = cc in z)
known false false is e = absurd (let z : ⊥ = cc in z)

module _ (list : List AllowedDigest) (selections : List Selection) (none : first_lacking list selections all_algs ≡ None) where
  abbrev of_bank : Alg → Option NotSelected
  of_bank bank = first_lacking_of list selections bank

  none_of : (bank : Alg) → of_bank bank ≡ None
  none_of Sha1 = (neither (of_bank Sha1) (first_lacking list selections (Sha256 ∷ Sha384 ∷ [])) none).0
  none_of Sha256 =
      let behind = (neither (of_bank Sha1) (first_lacking list selections (Sha256 ∷ Sha384 ∷ [])) none).1 in
      (neither (of_bank Sha256) (first_lacking list selections (Sha384 ∷ [])) behind).0
  none_of Sha384 =
      let behind = (neither (of_bank Sha1) (first_lacking list selections (Sha256 ∷ Sha384 ∷ [])) none).1 in
      let last = (neither (of_bank Sha256) (first_lacking list selections (Sha384 ∷ [])) behind).1 in
      (neither (of_bank Sha384) None last).0

  -- Each register that the list names is selected.
  named_selected : (bank : Alg) (register : ℕ) → register < 24 → names list bank register ≡ true → is_among selections (register_of bank register) ≡ true
  named_selected bank register less named =
      let lacks = is_lacking list selections bank in
      known (names list bank register) (is_among selections (register_of bank register)) named
      (none_from lacks 0 24 register (none_mapped (register_of bank) (find lacks all_registers) (none_of bank)) (omega arith) less)

-- ---- records

both_empty : {A : Type 0} (xs ys : List A) → xs ++ ys ≡ [] → (xs ≡ []) × (ys ≡ [])
both_empty [] ys e = (refl, e)
both_empty (x ∷ xs) ys e = absurd (let z : ⊥ = cc in z)

none_there : {A B : Type 0} (f : A → B) (xs : List A) → map f xs ≡ [] → xs ≡ []
none_there f [] e = refl
none_there f (x ∷ xs) e = absurd (let z : ⊥ = cc in z)

none_passes : (p : Alg → Bool) (banks : List Alg) (bank : Alg) → filter p banks ≡ [] → IsAmong bank banks → p bank ≡ false
none_passes p [] bank none among = absurd among
none_passes p (b ∷ banks) bank none among = go (none_passes p banks bank) (p b) refl none among
  where
    go : (filter p banks ≡ [] → IsAmong bank banks → p bank ≡ false) → (c : Bool) → p b ≡ c
        → (if c then b ∷ filter p banks else filter p banks) ≡ [] → IsAmong bank (b ∷ banks) → p bank ≡ false
    go more true is e among = absurd (let z : ⊥ = cc in z)
    go more false is e (inl same) = ap p same ∙ is
    go more false is e (inr later) = more e later

each_bank : (bank : Alg) → IsAmong bank all_algs
each_bank Sha1 = inl refl
each_bank Sha256 = inr (inl refl)
each_bank Sha384 = inr (inr (inl refl))

none_unknown : (list : List AllowedDigest) (bank : Alg) (at : ℕ) (es : List LogRecord) → extensions_from (Some list) at (map shown es) ≡ []
    → (e : LogRecord) → IsAmong e es → is_unknown list (shown e) bank ≡ false
none_unknown list bank at [] none e among = absurd among
none_unknown list bank at (x ∷ es) none e among =
    go (none_unknown list bank (at + record_size (shown x)) es) (both_empty _ _ none) among
  where
    told : List Alg
    told = filter (is_unknown list (shown x)) all_algs

    go : (extensions_from (Some list) (at + record_size (shown x)) (map shown es) ≡ []
        → (e : LogRecord) → IsAmong e es → is_unknown list (shown e) bank ≡ false)
        → (map (extension at (shown x)) told ≡ []) × (extensions_from (Some list) (at + record_size (shown x)) (map shown es) ≡ [])
        → IsAmong e (x ∷ es) → is_unknown list (shown e) bank ≡ false
    go more parts (inl same) =
        let here = none_passes (is_unknown list (shown x)) all_algs bank (none_there (extension at (shown x)) told parts.0) (each_bank bank) in
        ap (λ (y : LogRecord). is_unknown list (shown y) bank) same ∙ here
    go more parts (inr later) = more parts.1 e later

-- ---- a list

-- what a list says where all was done beside it
record IsHeld (q : VouchedLog) (allow : List ℕ) : Type 0 where
  list : List AllowedDigest
  read : allowed_in allow ≡ Ok list
  some : (bank : Alg) × (register : ℕ) × (names list bank register ≡ true)
  none_lacking : first_lacking list q.selections all_algs ≡ None
  none_found : extensions_in (Some list) q.log.size (map shown q.log.records) ≡ []

none_of_status : (found : List Extension) → status_if (length found == 0) ≡ Done → found ≡ []
none_of_status found done = nil_from_length found (eqb-true (length found) 0 (done_if (length found == 0) done))

named_first : (list : List AllowedDigest) → (length list == 0) ≡ false → (bank : Alg) × (register : ℕ) × (names list bank register ≡ true)
named_first [] some = absurd (let z : ⊥ = cc in z)
named_first (a ∷ list) some = (a.digest.0, a.register, names_first a list)

held : (q : VouchedLog) (allow : List ℕ) (list : List AllowedDigest) → allowed_in allow ≡ Ok list → (on_digests q list).status ≡ Done → IsHeld q allow
held q allow list read done = go (length list == 0) refl (first_lacking list q.selections all_algs) refl done
  where
    found : List Extension
    found = extensions_in (Some list) q.log.size (map shown q.log.records)

    go : (none : Bool) → (length list == 0) ≡ none → (o : Option NotSelected) → first_lacking list q.selections all_algs ≡ o
        → (if none then refused (fault_told q.options.form (codes "no register"))
        else on_lacking q.options.form o (on_unknown q.options.form list found)).status ≡ Done → IsHeld q allow
    go true none o is done = absurd (not_done (sym done))
    go false some (Some r) is done = absurd (not_done (sym done))
    go false some None is done = record {
      list = list;
      read = read;
      some = named_first list some;
      none_lacking = is;
      none_found = none_of_status found done;
    }

held_of_read : (q : VouchedLog) (allow : List ℕ) (read : AllowRead) → allowed_in allow ≡ read → (on_list q (said_by read)).status ≡ Done → IsHeld q allow
held_of_read q allow (Ok list) is done = held q allow list is done
held_of_read q allow (Err number) is done = absurd (not_done (sym done))

held_of_list : (q : VouchedLog) (allow : List ℕ) → (on_list q (list_said allow)).status ≡ Done → IsHeld q allow
held_of_list q allow done = go (nat_lt most_bytes (length allow)) done
  where
    go : (long : Bool) → (on_list q (if long then TooLong else said_by (allowed_in allow))).status ≡ Done → IsHeld q allow
    go true done = absurd (not_done (sym done))
    go false done = held_of_read q allow (allowed_in allow) refl done

-- ---- a log beside both

module _ (o : CheckOptions) (signed allow bytes : List ℕ) (l : ParsedLog) (found : Registers) (parses : Parses bytes (Ok l))
    (replays : Replays AreAfter bytes (Ok found)) where
  abbrev read_log : ReadLog
  read_log = record { bytes = bytes; hashes = l.hashes; records = l.records; spelled = parses.0 }

  abbrev quoted_log : (a : Accepted o (value_in found.banks) signed) → QuotedLog a.hash a.quote
  quoted_log a = record {
    read = read_log;
    registers = found;
    replayed = replays;
    nonce = unwrap_or (given o.nonce) a.quote.extra_data;
    required = unwrap_or o.required [];
    accepted = (a.nonce, a.required, a.is);
  }

  module _ (a : Accepted o (value_in found.banks) signed) (selections : List Selection) (selects : Selects signed selections)
      (h : IsHeld (record { options = o; selections = selections; log = l }) allow) where
    abbrev listed : ListedLog
    listed = record { list = h.list; signed = a.quote; hash = a.hash; log = quoted_log a }

    each_allowed : (bank : Alg) (register : ℕ) → names h.list bank register ≡ true → AllowedThere listed bank register
    each_allowed bank register named =
        let less = named_below h.list (list_below allow h.list h.read) bank register named in
        let selected : is_among a.quote.quote.selections (register_of bank register) ≡ true =
        subst (λ (ss : List Selection). is_among ss (register_of bank register) ≡ true) (one_selection signed a.quote selections a.spelled selects)
        (named_selected h.list selections h.none_lacking bank register less named) in
        let here : AreAllowed h.list bank register l.records =
        all_allowed h.list bank register read_log named (λ e among same. none_unknown h.list bank _ l.records h.none_found e among) in
        record {
          selected = selected;
          here = here;
          elsewhere = λ other apart free. allowed_quoted h.list bank a.hash a.quote register (quoted_log a) other less selected apart free here;
        }

    all_are : AllowedByQuote o signed allow bytes
    all_are = record {
      listed = listed;
      of_quote = a.spelled;
      of_list = h.read;
      of_log = refl;
      asked = record { signer = a.signer; hash = a.of_hash; nonce = refl; required = refl };
      some = h.some;
      each = each_allowed;
    }

  all_allowed_done : (text : List ℕ) → SaysBeside o (record { attest = signed; allow = Some (list_said allow) }) found l (printed Done text)
      → AllowedByQuote o signed allow bytes
  all_allowed_done text (first, last, checks, followed, says) = go first.status refl followed
    where
      beside_list : List Selection → VouchedLog
      beside_list selections = record { options = o; selections = selections; log = l }

      go : (s : Status) → first.status ≡ s
          → OnDone s ((selections : List Selection) × Selects signed selections
          × Says (behind first (on_selected (Some (list_said allow)) (beside_list selections))) last.status last.text) (Says first last.status last.text)
          → AllowedByQuote o signed allow bytes
      go Refused is ends = absurd (not_done (says.0 ∙ ends.0 ∙ is))
      go Done is (selections, selects, ends) =
          let q = beside_list selections in
          let behind_done = (both_done first.status (on_selected (Some (list_said allow)) q).status (sym (says.0 ∙ ends.0))).1 in
          let list_done = (both_done (boot_if o.secure_boot (on_boot q)).status (on_list q (list_said allow)).status behind_done).1 in
          all_are (accepted (beside o.form (value_in found.banks)) o signed first checks is) selections selects (held_of_list q allow list_done)

pub allowed_done : (o : CheckOptions) (signed allow bytes text : List ℕ)
    → ChecksBoot (record { options = o; attest = Some signed; allow = Some (list_said allow) }) bytes Done text → AllowedByQuote o signed allow bytes
allowed_done o signed allow bytes text (inl (l, parses, (found, replays, says))) = all_allowed_done o signed allow bytes l found parses replays text says
allowed_done o signed allow bytes text (inr (fault, is, told)) = absurd (not_done told.0)
