-- The kinds of faults as rows of one table.
use Rattle.std.proofs.Common.{◌≡◌, ◌∙◌, ◌++◌, ℕ, Bool, true, false, List, [], ◌∷◌, codes, map, Option, Some, None, ap, inl, inr, is_some, refl, subst, sym}
use Rattle.std.specs.List.{AllByRecursion}
use Rattle.std.specs.Prelude.{find, if◌then◌else◌, option_map, unwrap_or}
use Rattle.std.specs.Str.{str_eq_ignore_ascii_case}
use Rattle.tpm_log.specs.declared.fault.LogFaultKind.{LogFaultKind}
use Rattle.tpm_log.specs.declared.fault.LogFaultKind.TheVariants as logs
use Rattle.tpm_secure_boot.specs.declared.verdict.SecureBootFaultKind.{SecureBootFaultKind}
use Rattle.tpm_secure_boot.specs.declared.verdict.SecureBootFaultKind.TheVariants as boots
use Rattle.tpm_event_data.specs.declared.signatures.SignatureFaultKind.{SignatureFaultKind}
use Rattle.tpm_event_data.specs.declared.signatures.SignatureFaultKind.TheVariants as lists
use Rattle.tpm_output.specs.declared.status.Status.TheVariants.{Done, Refused}
use Rattle.tpm_events.specs.LogFaults.{kind_name}
use Rattle.tpm_event_marks.specs.SignatureMarks.{kind_name as list_kind_name}
use Rattle.tpm_check.specs.SecureBootLines.{fault_name}
use Rattle.tpm_check.specs.Kinds.{ExplainsKind, boot_words, kind_line, list_words, log_words, name_among, spelled}
use Rattle.tpm_check.specs.inner.Kinds.{row_named}

abbrev Row : Type 0
Row = List ℕ × List ℕ

abbrev log_row : LogFaultKind → Row
log_row k = (kind_name k, log_words k)

abbrev boot_row : SecureBootFaultKind → Row
boot_row k = (fault_name k, boot_words k)

abbrev list_row : SignatureFaultKind → Row
list_row k = (list_kind_name k, list_words k)

abbrev of_logs : List LogFaultKind
of_logs =
    logs.Truncated ∷ logs.TooLong ∷ logs.NotCryptoAgile ∷ logs.BadHeader ∷ logs.DuplicateAlgorithm ∷ logs.WrongDigestSize
    ∷ logs.UnknownAlgorithm ∷ logs.RepeatedDigest ∷ logs.BadRegister ∷ logs.BadLocality ∷ logs.LateLocality ∷ logs.Device ∷ []

abbrev of_boots : List SecureBootFaultKind
of_boots =
    boots.NotMeasured ∷ boots.OtherType ∷ boots.NoVariable ∷ boots.Twice ∷ boots.OtherValue ∷ boots.Debugger
    ∷ boots.BadSeparator ∷ boots.NoSeparator ∷ boots.Late ∷ boots.NoKey ∷ boots.NoAuthority ∷ boots.NoSecureBoot ∷ []

-- without the one whose name is that of a log's
abbrev of_lists : List SignatureFaultKind
of_lists = lists.ListSize ∷ lists.HeaderSize ∷ lists.SignatureSize ∷ []

abbrev pub rows : List Row
rows = map log_row of_logs ++ (map boot_row of_boots ++ map list_row of_lists)

-- ---- what is found says what its kind says

abbrev Explains : Row → Type 0
Explains row = ExplainsKind row.0 Done (kind_line row.0 row.1)

all_mapped : {A X : Type 0} (P : X → Type 0) (f : A → X) → ((k : A) → P (f k)) → (ks : List A) → AllByRecursion P (map f ks)
all_mapped P f holds [] = tt
all_mapped P f holds (k ∷ ks) = (holds k, all_mapped P f holds ks)

all_both : {X : Type 0} (P : X → Type 0) (xs ys : List X) → AllByRecursion P xs → AllByRecursion P ys → AllByRecursion P (xs ++ ys)
all_both P [] ys all more = more
all_both P (x ∷ xs) ys all more = (all.0, all_both P xs ys all.1 more)

all_explain : AllByRecursion Explains rows
all_explain =
    all_both Explains (map log_row of_logs) (map boot_row of_boots ++ map list_row of_lists)
    (all_mapped Explains log_row (λ k. inl (k, refl, refl)) of_logs)
    (all_both Explains (map boot_row of_boots) (map list_row of_lists)
    (all_mapped Explains boot_row (λ k. inr (inl (k, refl, refl))) of_boots)
    (all_mapped Explains list_row (λ k. inr (inr (k, refl, refl))) of_lists))

find_holds : {X : Type 0} (P : X → Type 0) (p : X → Bool) (xs : List X) (x : X) → AllByRecursion P xs → find p xs ≡ Some x → P x
find_holds P p [] x all is = absurd (let z : ⊥ = cc in z)
find_holds P p (y ∷ ys) x all is = go (p y) (find_holds P p ys x all.1) is
  where
    go : (b : Bool) → (find p ys ≡ Some x → P x) → (if b then Some y else find p ys) ≡ Some x → P x
    go true more e = let same : y ≡ x = cc in subst P same all.0
    go false more e = more e

find-map : {X Y : Type 0} (f : X → Y) (q : Y → Bool) (xs : List X) → find q (map f xs) ≡ option_map f (find (λ x. q (f x)) xs)
find-map f q [] = refl
find-map f q (x ∷ xs) = go (q (f x)) (find-map f q xs)
  where
    go : (b : Bool) → find q (map f xs) ≡ option_map f (find (λ y. q (f y)) xs)
        → (if b then Some (f x) else find q (map f xs)) ≡ option_map f (if b then Some x else find (λ y. q (f y)) xs)
    go true more = refl
    go false more = more

abbrev name_of : Row → List ℕ
name_of row = row.0

-- the name is spelled as in the row
spelled_as : (word : List ℕ) (found : Option Row) → row_named rows word ≡ found → spelled word ≡ unwrap_or (option_map name_of found) word
unfolding name_among row_named
spelled_as word found is =
    ap (λ (o : Option (List ℕ)). unwrap_or o word)
    (find-map name_of (λ name. str_eq_ignore_ascii_case name word) rows ∙ ap (option_map name_of) is)

pub explains : (word : List ℕ) (row : Row) → row_named rows word ≡ Some row → ExplainsKind (spelled word) Done (kind_line row.0 row.1)
unfolding row_named
explains word row is =
    let holds : Explains row = find_holds Explains (λ r. str_eq_ignore_ascii_case r.0 word) rows row all_explain is in
    subst (λ (name : List ℕ). ExplainsKind name Done (kind_line row.0 row.1)) (sym (spelled_as word (Some row) is)) holds

-- ---- each name is found

abbrev IsFound : List ℕ → Type 0
IsFound name = is_some (row_named rows name) ≡ true

log_found : (k : LogFaultKind) → IsFound (kind_name k)
unfolding row_named
log_found logs.Truncated = refl
log_found logs.TooLong = refl
log_found logs.NotCryptoAgile = refl
log_found logs.BadHeader = refl
log_found logs.DuplicateAlgorithm = refl
log_found logs.WrongDigestSize = refl
log_found logs.UnknownAlgorithm = refl
log_found logs.RepeatedDigest = refl
log_found logs.BadRegister = refl
log_found logs.BadLocality = refl
log_found logs.LateLocality = refl
log_found logs.Device = refl

boot_found : (k : SecureBootFaultKind) → IsFound (fault_name k)
unfolding row_named
boot_found boots.NotMeasured = refl
boot_found boots.OtherType = refl
boot_found boots.NoVariable = refl
boot_found boots.Twice = refl
boot_found boots.OtherValue = refl
boot_found boots.Debugger = refl
boot_found boots.BadSeparator = refl
boot_found boots.NoSeparator = refl
boot_found boots.Late = refl
boot_found boots.NoKey = refl
boot_found boots.NoAuthority = refl
boot_found boots.NoSecureBoot = refl

list_found : (k : SignatureFaultKind) → IsFound (list_kind_name k)
unfolding row_named
list_found lists.Truncated = refl
list_found lists.ListSize = refl
list_found lists.HeaderSize = refl
list_found lists.SignatureSize = refl

missing : (word name : List ℕ) → row_named rows word ≡ None → IsFound name → name ≡ word → ⊥
missing word name is found same =
    let here : IsFound word = subst IsFound same found in
    let z : ⊥ = cc (here, ap (λ (o : Option Row). is_some o) is) in
    z

pub unknown : (word : List ℕ) → row_named rows word ≡ None
    → ExplainsKind (spelled word) Refused (codes "unknown name of a code or of a fault\n")
unknown word is =
    rw (spelled_as word None is) (
      (λ k. missing word (kind_name k) is (log_found k)),
      (λ k. missing word (fault_name k) is (boot_found k)),
      (λ k. missing word (list_kind_name k) is (list_found k)),
      refl,
    )
