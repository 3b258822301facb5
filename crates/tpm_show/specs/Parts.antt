-- What `show --fields` tells of the parts of structures, by the names that Part 2 gives them (this profile).
use Rattle.std.specs.Prelude.{ℕ, List, [], ◌∷◌, ◌++◌, filter, flat_map, codes as text, Some, None}
use Rattle.std.specs.List.{range_with_len}
use Rattle.tpm_wire.specs.Spelling.{spelling}
use Rattle.tpm_types.specs.declared.alg.Alg.{Alg}
use Rattle.tpm_types.specs.declared.tpms.NvPublic.{NvPublic}
use Rattle.tpm_types.specs.declared.tpms.Selection.{Selection}
use Rattle.tpm_types.specs.declared.tpmt.SymDef.{SymDef}
use Rattle.tpm_types.specs.Tpm2b.{digest}
use Rattle.tpm_types.specs.Tpma.{nv_type}
use Rattle.tpm_types.specs.Tpms.{selection, is_selected, nv_public_area}
use Rattle.tpm_types.specs.Tpmt.{digest_value, sym_def}
use Rattle.tpm_output.specs.Named.{Named, table_as}
use Rattle.tpm_show.specs.declared.parts.TheConstants.{ATTRIBUTES}
use Rattle.tpm_show.specs.Bits.{bits_set}
use Rattle.tpm_commands.specs.Row.{Field, named}
use Rattle.tpm_show.specs.FieldText.{fields_from, number_told, parts, structure_told, value_told}
use Rattle.tpm_show.specs.Pieces.{Piece}

-- ---- TPMA_NV (13.4)

abbrev pub set_attribute : Named → List Piece
set_attribute bit = number_told (text "      ") bit.name 1

unfoldable pub attributes_set : ℕ → List Named
attributes_set attrs = bits_set (table_as ATTRIBUTES) attrs

-- the field TPM_NT, whatever it is, and each bit that is set
unfoldable pub attribute_parts : ℕ → List Piece
attribute_parts attrs =
    number_told (text "      ") (text "TPM_NT") (nv_type attrs) ++ flat_map set_attribute (attributes_set attrs)

-- ---- TPMS_NV_PUBLIC (13.5), which is what TPM2B_NV_PUBLIC (13.6) has

abbrev pub public_names : List Field
public_names =
    named (text "nvIndex") (text "TPMI_RH_NV_INDEX") ∷
    named (text "nameAlg") (text "TPMI_ALG_HASH") ∷
    named (text "attributes") (text "TPMA_NV") ∷
    named (text "authPolicy") (text "TPM2B_DIGEST") ∷
    named (text "dataSize") (text "UINT16") ∷
    []

abbrev pub public_parts : NvPublic → List Piece
public_parts p = fields_from (text "    ") public_names
    (parts nv_public_area p) (None ∷ None ∷ Some (attribute_parts p.attrs) ∷ [])

-- ---- TPML_PCR_SELECTION (10.9.7), whose entries are TPMS_PCR_SELECTION (10.6.2)

abbrev pub selection_names : List Field
selection_names =
    named (text "hash") (text "TPMI_ALG_HASH") ∷
    named (text "sizeofSelect") (text "UINT8") ∷
    named (text "pcrSelect") (text "BYTE") ∷
    []

abbrev pub register_part : (register : ℕ) → List Piece
register_part register = number_told (text "        ") (text "PCR") register

unfoldable pub selected_registers : (select : List ℕ) → List ℕ
selected_registers select = filter (is_selected select) (range_with_len 0 24)

abbrev pub register_parts : (select : List ℕ) → List Piece
register_parts select = flat_map register_part (selected_registers select)

abbrev pub selection_members : Selection → List Piece
selection_members s = fields_from (text "      ") selection_names
    (parts selection s) (None ∷ None ∷ Some (register_parts s.select) ∷ [])

abbrev pub selection_entry : Selection → List Piece
selection_entry s = structure_told (text "    ")
    (named (text "pcrSelections") (text "TPMS_PCR_SELECTION")) (spelling selection s) (selection_members s)

-- ---- TPML_DIGEST (10.9.5)

abbrev pub digest_entry : List ℕ → List Piece
digest_entry d = value_told (text "    ") (named (text "digests") (text "TPM2B_DIGEST")) (spelling digest d)

-- ---- TPML_DIGEST_VALUES (10.9.6), whose entries are TPMT_HA (10.3.2)

abbrev pub digest_value_names : List Field
digest_value_names = named (text "hashAlg") (text "TPMI_ALG_HASH") ∷ named (text "digest") (text "TPMU_HA") ∷ []

abbrev pub digest_value_members : Alg × List ℕ → List Piece
digest_value_members d = fields_from (text "      ") digest_value_names (parts digest_value d) []

abbrev pub digest_value_entry : Alg × List ℕ → List Piece
digest_value_entry d = structure_told (text "    ")
    (named (text "digests") (text "TPMT_HA")) (spelling digest_value d) (digest_value_members d)

-- ---- TPMT_SYM_DEF (11.1.6)

abbrev pub symmetric_names : List Field
symmetric_names =
    named (text "algorithm") (text "TPMI_ALG_SYM") ∷
    named (text "keyBits") (text "TPMU_SYM_KEY_BITS") ∷
    named (text "mode") (text "TPMU_SYM_MODE") ∷
    []

abbrev pub symmetric_parts : SymDef → List Piece
symmetric_parts s = fields_from (text "    ") symmetric_names (parts sym_def s) []
