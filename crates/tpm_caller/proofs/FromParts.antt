-- A command that is sealed in parts has a spelling, where its parts have.
use Rattle.std.proofs.Common.{◌≡◌, ℕ, ◌^◌, ◌<◌, ◌≤◌, Bool, true, false, [], ◌∷◌, length, refl}
use Rattle.std.proofs.Common.{arith, get_or, zero, suc}
use Rattle.std.proofs.lemmas.Bool.{le-leb}
use Rattle.tpm_wire.specs.Spelling.{spelling, Fits, IsSpelled}
use Rattle.tpm_wire.specs.Structures.{sized_bytes}
use Rattle.tpm_types.specs.declared.alg.Alg.{Alg}
use Rattle.tpm_types.specs.declared.alg.Alg.TheVariants as algs
use Rattle.tpm_types.specs.declared.tpms.Auth.{Auth}
use Rattle.tpm_types.specs.declared.command_code.CommandCode.{CommandCode}
use Rattle.tpm_types.specs.declared.command_code.CommandCode.TheVariants as codes
use Rattle.tpm_types.specs.Alg.{digest_len}
use Rattle.tpm_types.specs.Handles.{auth_session, is_session}
use Rattle.tpm_types.specs.Limits.{digest_bytes}
use Rattle.tpm_types.specs.Tpma.{is_session_attrs, session_attrs}
use Rattle.tpm_types.specs.Tpms.{auth_command}
use Rattle.tpm_commands.specs.Limits.{most_params}
use Rattle.tpm_buffer.specs.Commands.{code_for, rest_of}
use Rattle.tpm_buffer.proofs.Spelled.{IsCode, fits_command, fits_rest}
use Rattle.tpm_hmac.proofs.DigestLengths.{length-hmac}
use Rattle.tpm_model.specs.Callers.{Seal, attrs_for, command_params, seal_auth, seal_key, seal_text, sealed_command}
use Rattle.tpm_caller.specs.Sent as sent
use Rattle.tpm_caller.specs.Plain.{PartsFit, handle_bytes}
use Rattle.tpm_caller.proofs.HmacPlace.{session_long, size_is, spelled_so}

is_code : (code : CommandCode) → IsCode code
is_code codes.Startup = (omega arith, refl)
is_code _ = (omega arith, refl)

digest_short : (alg : Alg) → digest_len alg ≤ digest_bytes
digest_short algs.Sha1 = omega arith
digest_short algs.Sha256 = omega arith
digest_short algs.Sha384 = omega arith

attrs_meant : (keep : Bool) → (attrs_for keep < 256) × (is_session_attrs (attrs_for keep) ≡ true)
attrs_meant true = (omega arith, refl)
attrs_meant false = (omega arith, refl)

-- what is known of a session that is written
pub record IsShort (a : Auth) : Type 0 where
  pub session : is_session a.session ≡ true
  pub number : a.session < 2 ^ 32
  pub nonce : length a.nonce ≤ digest_bytes
  pub attrs : (a.attrs < 256) × (is_session_attrs a.attrs ≡ true)
  pub mac : length a.hmac ≤ digest_bytes

session_fits : (a : Auth) → IsShort a → (left : ℕ) → Fits left auth_command a
unfolding auth_command auth_session session_attrs sized_bytes
session_fits a is left = (
  (omega (arith, is.number), rw is.session refl),
  (
    ((omega (arith, is.nonce), rw (le-leb (length a.nonce) digest_bytes is.nonce) refl), (refl, refl)),
    (
      (omega (arith, is.attrs.0), rw is.attrs.1 refl),
      (
        ((omega (arith, is.mac), rw (le-leb (length a.hmac) digest_bytes is.mac) refl), (refl, refl)),
        refl,
      ),
    ),
  ),
)

session_spelled : (a : Auth) → IsShort a → IsSpelled auth_command a
session_spelled a is = record { fits = session_fits a is; some = omega (arith, session_long a) }

each_spelled : (a : Auth) → IsShort a → (k : ℕ) (d : Auth) → k < 1 → IsSpelled auth_command (get_or (a ∷ []) k d)
each_spelled a is zero d lt = session_spelled a is
each_spelled a is (suc k) d lt = absurd (omega (arith, lt))

-- what is known of who seals, and of the nonce
pub record IsSealer (s : Seal) : Type 0 where
  pub session : is_session s.caller.handle ≡ true
  pub number : s.caller.handle < 2 ^ 32
  pub nonce : length s.nonce ≤ digest_bytes

short : (s : Seal) → IsSealer s → IsShort (seal_auth s)
short s by = record {
  session = by.session;
  number = by.number;
  nonce = by.nonce;
  attrs = attrs_meant s.keep;
  mac = omega (arith, length-hmac s.caller.hash (seal_key s) (seal_text s), digest_short s.caller.hash);
}

pub parts_spelled : (s : Seal) → IsSealer s → PartsFit s.body → length (handle_bytes s.body) ≤ 8
    → length (command_params s.body) ≤ most_params → sent.IsSpelled s
parts_spelled s by fit handles params =
    let c = sealed_command s in
    let a = seal_auth s in
    let is = short s by in
    let rest : length (spelling (rest_of (code_for s.body) 0x8002) c) ≤ 4000 =
    omega (arith, size_is s.body a, is.nonce, is.mac, handles, params) in
    spelled_so s (fits_command c (is_code (code_for s.body)) rest
    (fits_rest c (omega arith) (each_spelled a is) fit.handles fit.params fit.whole rest))
