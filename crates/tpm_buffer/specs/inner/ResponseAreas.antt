-- What the readers of a response's areas hand on.
use Rattle.std.specs.Prelude.{◌≡◌, ℕ, ◌+◌, ◌≤◌, List, length, take, drop}
use Rattle.tpm_wire.specs.Token.{Here}
use Rattle.tpm_types.specs.declared.tpms.AuthReply.{AuthReply}
use Rattle.tpm_commands.specs.Replies.{handle_list}
use Rattle.tpm_buffer.specs.declared.response_areas.Front.{Front}
use Rattle.tpm_buffer.specs.Responses.{ReplyCut}
use Rattle.tpm_buffer.specs.ResponseAreas.{place_behind}

-- a place in these bytes, on the way through them
pub record IsPlaceIn (bytes : List ℕ) (h : Here) : Type 0 where
  pub rest : h.rest ≡ drop h.at bytes
  pub whole : h.at + length h.rest ≡ length bytes

-- the cut of a response that is these bytes and has these sessions
abbrev pub cut_by : List ℕ → Front → List AuthReply → ReplyCut
cut_by bytes f auths = record {
  code = f.code;
  handles = handle_list f.handle;
  params = take f.params_size (drop f.params_at bytes);
  auths = auths;
}

-- The parameters lie in these bytes, behind what stands before them.
abbrev pub LiesIn : List ℕ → Front → List AuthReply → Type 0
LiesIn bytes f auths =
    (f.params_at + f.params_size ≤ length bytes) × (f.params_at ≡ place_behind (handle_list f.handle) auths)
