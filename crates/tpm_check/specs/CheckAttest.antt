-- What `check` prints of a quote as it was signed (this profile).
use Rattle.std.specs.Prelude.{◌≡◌, ◌⊎◌, ℕ, Bool, true, false, ◌&&◌, if◌then◌else◌, List, [], ◌∷◌, ◌++◌, take, drop}
use Rattle.std.specs.Prelude.{codes, Option, Some, None, option_map, unwrap_or}
use Rattle.std.specs.Global.{Vec}
use Rattle.std.specs.List.{list_any}
use Rattle.std.specs.Str.{bytes_eq}
use Rattle.tpm_wire.specs.declared.refusal.Refusal.{Refusal}
use Rattle.tpm_wire.specs.Path.{Spells, Fault}
use Rattle.tpm_types.specs.declared.tpms.Selection.{Selection}
use Rattle.tpm_types.specs.declared.attest.Attest.{Attest}
use Rattle.tpm_types.specs.Alg.{alg_name}
use Rattle.tpm_types.specs.Attest.{attest}
use Rattle.tpm_quote.specs.declared.attest.NotSelected.{NotSelected}
use Rattle.tpm_quote.specs.Attests.{first_not_selected, registers_of}
use Rattle.tpm_options.specs.declared.CheckOptions.{CheckOptions}
use Rattle.tpm_output.specs.declared.form.Form.TheVariants.{Lines, Json}
use Rattle.tpm_output.specs.declared.form.Form.{Form}
use Rattle.tpm_output.specs.declared.status.Status.TheVariants.{Done, Refused}
use Rattle.tpm_output.specs.declared.status.Status.{Status}
use Rattle.tpm_output.specs.Marks.{Mark, Number, Says as SaysOf, Word}
use Rattle.tpm_output.specs.Status.{both}
use Rattle.tpm_output.specs.Telling.{list, object, says}
use Rattle.tpm_check.specs.AttestMarks.{marks_of_attest}
use Rattle.tpm_check.specs.Check.{is_quote, mark_of_quote, verdict_word}
use Rattle.tpm_check.specs.CheckJson.{ok_text, refusal_text, rendered}
use Rattle.tpm_check.specs.Compare.{Beside, Verdict, printed, refused, status_if}
use Rattle.tpm_check.specs.declared.judged.Judged.{Judged}
use Rattle.tpm_check.specs.declared.judged.Selected.TheVariants as selects
use Rattle.tpm_check.specs.declared.judged.Selected.{Selected}

-- ---- verdicts

-- bytes that are given
abbrev pub given : Option (Vec ℕ) → Option (List ℕ)
given bytes = option_map (λ v. v.items) bytes

-- all that is required, or else the first register of it that is not selected
abbrev pub covering : Option NotSelected → Selected
covering None = selects.Covers
covering (Some r) = selects.Lacks r

-- Where nothing is required, a quote that selects no register says nothing of any.
abbrev pub of_any : List NotSelected → Selected
of_any [] = selects.Empty
of_any (r ∷ rs) = selects.NotCompared

abbrev pub selected : (required : Option (List Selection)) → List Selection → Selected
selected None quoted = of_any (registers_of quoted)
selected (Some required) quoted = covering (first_not_selected quoted required)

-- qualifiedSigner beside the name of the key that has to have signed, extraData beside the nonce that was sent, and the
-- digest beside that of the registers; none where there is nothing to compare with
abbrev pub judged : Beside → CheckOptions → Attest → Judged
judged b o a = record {
  signer = option_map (bytes_eq a.signer) (given o.signer);
  nonce = option_map (bytes_eq a.extra_data) (given o.nonce);
  selection = selected o.required a.quote.selections;
  quote = is_quote b o.hash a.quote;
}

abbrev pub is_done : (any : Bool) → Selected → Bool
is_done any selects.Covers = true
is_done any (selects.Lacks r) = false
is_done any selects.Empty = false
is_done any selects.NotCompared = any

-- The signer is the one asked for, if one is; so are the nonce and the selection, or it was asked for that any will do;
-- and the digest is that of the registers.
abbrev pub is_asked_for : CheckOptions → Judged → Bool
is_asked_for o j =
    unwrap_or j.signer true
    && (unwrap_or j.nonce o.any_nonce && (is_done o.any_selection j.selection && unwrap_or j.quote false))

-- ---- what is told

abbrev pub marks_of_signer : Option Bool → List Mark
marks_of_signer None = []
marks_of_signer (Some same) = says (codes "signer") (Word (verdict_word (Some same) (codes "not compared"))) ∷ []

-- in a line as further words, and else as an object of its own
abbrev pub marks_of_lacks : Form → NotSelected → List Mark
marks_of_lacks Lines r =
    list (codes "selection") (
    SaysOf None (Word (codes "lacks")) ∷ SaysOf None (Word (alg_name r.bank)) ∷ SaysOf None (Number r.register) ∷ [])
marks_of_lacks Json r =
    says (codes "selection") (Word (codes "lacks"))
    ∷ object (codes "lacks") (
    says (codes "bank") (Word (alg_name r.bank)) ∷ says (codes "register") (Number r.register) ∷ [])

abbrev pub marks_of_selected : Form → Selected → List Mark
marks_of_selected form (selects.Lacks r) = marks_of_lacks form r
marks_of_selected form selects.Covers = says (codes "selection") (Word (codes "covers")) ∷ []
marks_of_selected form selects.Empty = says (codes "selection") (Word (codes "empty")) ∷ []
marks_of_selected form selects.NotCompared = says (codes "selection") (Word (codes "not compared")) ∷ []

-- what the quote says, and the verdicts on its signer, its nonce, its selection and its digest
abbrev pub marks_of_judged : Form → Attest → Judged → List Mark
marks_of_judged form a j =
    marks_of_attest a ++ (marks_of_signer j.signer
    ++ (says (codes "nonce") (Word (verdict_word j.nonce (codes "not compared")))
    ∷ (marks_of_selected form j.selection ++ mark_of_quote j.quote ∷ [])))

abbrev pub on_attest : Beside → CheckOptions → Attest → Verdict
on_attest b o a = let j = judged b o a in
    printed (status_if (is_asked_for o j)) (rendered b.form (marks_of_judged b.form a j))

-- one behind the other
abbrev pub behind : Verdict → Verdict → Verdict
behind v w = printed (both v.status w.status) (v.text ++ w.text)

-- the status behind it, where it is told
abbrev pub ended : Form → Verdict → Verdict
ended form v = printed v.status (v.text ++ ok_text form v.status)

-- ---- what is printed

abbrev pub Says : Verdict → Status → List ℕ → Type 0
Says v status text = (status ≡ v.status) × (text ≡ v.text)

-- A size stands before TPM_GENERATED_VALUE, with which a quote begins (TPM2B_ATTEST; Part 2, 6.2 and 10.12.13).
abbrev pub is_sized : List ℕ → Bool
is_sized bytes = bytes_eq (take 4 (drop 2 bytes)) (0xFF ∷ 0x54 ∷ 0x43 ∷ 0x47 ∷ [])

-- RSASSA, RSAPSS or ECDSA stands first (TPMT_SIGNATURE; Part 2, 6.3 and 11.3.4).
abbrev pub is_signature : List ℕ → Bool
is_signature bytes = list_any (bytes_eq (take 2 bytes)) ((0 ∷ 0x14 ∷ []) ∷ (0 ∷ 0x16 ∷ []) ∷ (0 ∷ 0x18 ∷ []) ∷ [])

-- what bytes are in place of a quote
abbrev pub hint : List ℕ → Option (List ℕ)
hint bytes =
    if is_sized bytes then Some (codes "a size stands before it")
    else if is_signature bytes then Some (codes "it is a signature")
    else None

-- the quote that the bytes spell, and else their fault
abbrev pub ChecksAttest : Beside → CheckOptions → List ℕ → Verdict → Type 0
ChecksAttest b o bytes v =
    ((a : Attest) × Spells attest a bytes × Says (on_attest b o a) v.status v.text)
    ⊎ ((refusal : Refusal) × Fault attest bytes refusal
    × Says (refused (refusal_text b.form refusal (hint bytes))) v.status v.text)

-- ---- behind it

-- what a quote selects, and nothing where the bytes spell none
abbrev pub Selects : List ℕ → List Selection → Type 0
Selects bytes selections =
    ((a : Attest) × Spells attest a bytes × (selections ≡ a.quote.selections))
    ⊎ ((refusal : Refusal) × Fault attest bytes refusal × (selections ≡ []))

-- The one holds where all was done, and else the other.
abbrev pub OnDone : Status → Type 0 → Type 0 → Type 0
OnDone Done P Q = P
OnDone Refused P Q = Q

-- Behind what is said of a quote that is the one asked for comes what is said of what it selects, and behind any other
-- nothing.
abbrev pub IsFollowed : (attest : List ℕ) → (next : List Selection → Verdict) → (said : Verdict) → Verdict → Type 0
IsFollowed attest next said v =
    OnDone said.status
    ((selections : List Selection) × Selects attest selections × Says (behind said (next selections)) v.status v.text)
    (Says said v.status v.text)
