-- A command joined from its parts (Part 1, "Command/Response Structure"), whatever they are.
use Rattle.std.specs.Prelude.{ℕ, ◌+◌, List, [], ◌∷◌, ◌++◌, length}
use Rattle.std.specs.Int.{to_be_bytes, w16, w32}
use Rattle.tpm_types.specs.declared.command_code.CommandCode.{CommandCode}
use Rattle.tpm_types.specs.CommandCodes.{code_number}

-- with sessions or without
abbrev pub tag_for : {A : Type 0} → List A → ℕ
tag_for [] = 0x8001
tag_for (first ∷ others) = 0x8002

-- the number of the sessions' bytes, and the bytes; nothing where there are none
abbrev pub authorization_of : List ℕ → List ℕ
authorization_of [] = []
authorization_of (byte ∷ sessions) = to_be_bytes w32 (length (byte ∷ sessions)) ++ byte ∷ sessions

-- what follows the header
abbrev pub behind_header : List ℕ → List ℕ → List ℕ → List ℕ
behind_header handles sessions parameters = handles ++ (authorization_of sessions ++ parameters)

-- the header, and behind it the parts
abbrev pub joined : CommandCode → List ℕ → List ℕ → List ℕ → List ℕ
joined code handles sessions parameters = let behind = behind_header handles sessions parameters in
    to_be_bytes w16 (tag_for sessions)
    ++ (to_be_bytes w32 (10 + length behind) ++ (to_be_bytes w32 (code_number code) ++ behind))
