-- The lines of a device's NV memory (this profile).
use Rattle.std.specs.Prelude.{ℕ, Bool, true, false, not, List, [], ◌∷◌, ◌++◌, codes, Option, Some, None}
use Rattle.std.specs.Fmt.{decimal}
use Rattle.tpm_types.specs.declared.alg.Alg.{Alg}
use Rattle.tpm_types.specs.declared.tpms.NvPublic.{NvPublic}
use Rattle.tpm_model.specs.Authorization.{is_empty}
use Rattle.tpm_model.specs.Counters.{Counter, NvMemory}
use Rattle.tpm_types.specs.Alg.{alg_name}
use Rattle.tpm_output.specs.Text.{bytes_text, line, lines_from}
use Rattle.tpm_output.specs.Numbers.{hexadecimal}

unfoldable pub greatest_line : ℕ → List ℕ
greatest_line greatest = line (codes "greatest" ∷ decimal greatest ∷ [])

abbrev pub yes_or_no : Bool → List ℕ
yes_or_no true = codes "yes"
yes_or_no false = codes "no"

-- a counter's value, and `-` before its first increment
abbrev pub value_text : Option ℕ → List ℕ
value_text None = codes "-"
value_text (Some value) = decimal value

unfoldable pub index_text : ℕ → ℕ → List ℕ
index_text i index = codes "counter " ++ (decimal i ++ (codes " " ++ hexadecimal 8 index))

unfoldable pub hash_text : Alg → List ℕ
hash_text hash = codes " hash " ++ alg_name hash

unfoldable pub attributes_text : ℕ → List ℕ
attributes_text attributes = codes " attributes " ++ hexadecimal 8 attributes

unfoldable pub policy_text : List ℕ → List ℕ
policy_text policy = codes " policy " ++ bytes_text policy

-- of the authorization value only whether there is one that is not empty
unfoldable pub rest_line : (has-auth : Bool) → Option ℕ → List ℕ
rest_line has-auth value =
    codes " authorization " ++ (yes_or_no has-auth ++ (codes " value " ++ (value_text value ++ codes "\n")))

abbrev pub public_text : ℕ → NvPublic → List ℕ
public_text i p =
    index_text i p.index ++ (hash_text p.alg ++ (attributes_text p.attrs ++ policy_text p.policy))

abbrev pub counter_line : ℕ → Counter → List ℕ
counter_line i c = public_text i c.public ++ rest_line (not (is_empty c.auth)) c.value

-- the greatest value that any counter has had, and the counters in the order of their definitions
abbrev pub memory_text : NvMemory → List ℕ
memory_text nv = greatest_line nv.greatest ++ lines_from counter_line 1 nv.counters
