-- A log beside a quote and a list of allowed digests.
use Rattle.std.proofs.Common.{◌≡◌, List, ℕ, ◌++◌, ap, ◌∙◌, append_assoc, false, refl, subst, sym, Some}
use Rattle.std.specs.Prelude.{MatchOption, Option}
use Rattle.tpm_types.specs.declared.tpms.Selection.{Selection}
use Rattle.tpm_pcr.specs.Registers.{Registers, value_in}
use Rattle.tpm_vouched.specs.declared.allowed.AllowedDigest.{AllowedDigest}
use Rattle.tpm_output.specs.declared.status.Status.TheVariants.{Done, Refused}
use Rattle.tpm_output.specs.declared.status.Status.{Status}
use Rattle.tpm_output.specs.Status.{both}
use Rattle.tpm_lists.specs.declared.allow_file.AllowFile.TheVariants.{Digests}
use Rattle.tpm_lists.specs.declared.allow_file.AllowFile.{AllowFile}
use Rattle.tpm_check.specs.AllowedBoot.{ChecksBeside, SaysBehind, VouchedLog, on_digests, on_selected}
use Rattle.tpm_check.specs.Asked.{Asked, AskedQuote}
use Rattle.tpm_check.specs.CheckAttest.{ChecksAttest, IsFollowed, OnDone, Says, Selects, behind, ended}
use Rattle.tpm_check.specs.Compare.{Verdict, beside, printed}
use Rattle.tpm_check.specs.QuotedBoot.{ChecksBoot}
use Rattle.tpm_check.specs.SecureBootLines.{TellsSecureBoot}
use Rattle.tpm_check.specs.inner.CheckAttest.{Adds}

-- One is said behind the other.
pub adds_behind : (v w : Verdict) (one two status : Status) (old mid new : List ℕ) → Adds v one old mid → Adds w two mid new → status ≡ both one two
    → Adds (behind v w) status old new
adds_behind v w one two status old mid new first next is = (
  is ∙ ap (λ (s : Status). both s two) first.0 ∙ ap (both v.status) next.0,
  next.1 ∙ ap (λ (t : List ℕ). t ++ w.text) first.1 ∙ append_assoc old v.text w.text,
)

-- beside the digests of a list
pub selected_digests : (q : VouchedLog) (digests : List AllowedDigest) → q.options.secure_boot ≡ false
    → on_selected (Some (Digests digests)) q ≡ on_digests q digests
selected_digests q digests no-boot = rw no-boot refl

-- ---- behind a quote

module _ (q : AskedQuote) (found : Registers) (next : List Selection → Verdict) (first v : Verdict)
    (checks : ChecksAttest (beside q.options.form (value_in found.banks)) q.options q.attest first) where
  -- a quote that isn't the one that was asked for
  pub said_alone : first.status ≡ Refused → Says (ended q.options.form first) v.status v.text → SaysBehind q found next v
  said_alone is says =
      let alone : IsFollowed q.attest next first first = rw is (refl, refl) in
      (first, first, checks, alone, says)

  -- the one that was asked for
  pub said_behind : first.status ≡ Done → (selections : List Selection) → Selects q.attest selections
      → (status : Status) (text : List ℕ) → Adds (next selections) status first.text text
      → Says (ended q.options.form (printed status text)) v.status v.text → SaysBehind q found next v
  said_behind done selections selects status text adds says =
      let w = next selections in
      let last = behind first w in
      let followed : IsFollowed q.attest next first last = rw done (selections, selects, (refl, refl)) in
      let same : printed status text ≡ last =
      rw done (ap (λ (s : Status). printed s text) adds.0 ∙ ap (printed w.status) adds.1) in
      (first, last, checks, followed, subst (λ (u : Verdict). Says (ended q.options.form u) v.status v.text) same says)

on_done : (P Q R : Type 0) (status : Status) → (P → Q) → OnDone status P R → OnDone status Q R
on_done P Q R Done f holds = f holds
on_done P Q R Refused f holds = holds

-- what follows a quote that is the one asked for
abbrev Follows : (attest : List ℕ) → (next : List Selection → Verdict) → (first last : Verdict) → Type 0
Follows attest next first last =
    (selections : List Selection) × Selects attest selections × Says (behind first (next selections)) last.status last.text

-- It may be said in other words.
module _ (q : AskedQuote) (next other : List Selection → Verdict) (same : (selections : List Selection) → next selections ≡ other selections) where
  follows : (first last : Verdict) → Follows q.attest next first last → Follows q.attest other first last
  follows first last f = (f.0, f.1, subst (λ (w : Verdict). Says (behind first w) last.status last.text) (same f.0) f.2)

  pub said_likewise : (found : Registers) (v : Verdict) → SaysBehind q found next v → SaysBehind q found other v
  said_likewise found v says =
      let first = says.0 in
      let last = says.1 in
      let one = Follows q.attest next first last in
      let another = Follows q.attest other first last in
      (first, last, says.2, on_done one another (Says first last.status last.text) first.status (follows first last) says.3, says.4)

-- ---- what is asked beside both

pub checks_boot : (a : Asked) (attest : List ℕ) (allow : AllowFile) (bytes : List ℕ) (status : Status) (text : List ℕ)
    → a.attest ≡ Some attest → a.allow ≡ Some allow
    → ChecksBeside a.options (record { attest = attest; allow = Some allow }) bytes status text → ChecksBoot a bytes status text
checks_boot a attest allow bytes status text quoted listed checks =
    let alone = TellsSecureBoot a.options bytes status text in
    let beside-list = λ (list : Option AllowFile) (quote : List ℕ). ChecksBeside a.options (record { attest = quote; allow = list }) bytes status text in
    let told : beside-list a.allow attest = subst (λ (list : Option AllowFile). beside-list list attest) (sym listed) checks in
    subst (λ (quote : Option (List ℕ)). MatchOption quote alone (beside-list a.allow)) (sym quoted) told
