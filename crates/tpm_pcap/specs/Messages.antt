-- The messages of a simulator's connection: mssim's, which begin with two bytes that are 0, and swtpm's, which are
-- frames and begin with a tag.
use Rattle.std.specs.Prelude.{ℕ, ◌+◌, ◌==◌, ◌||◌, nat_lt, not, Bool, true, false, List, length, if◌then◌else◌}
use Rattle.tpm_pcap.specs.declared.message.Measure.TheVariants.{More, Frame, Silent, Broken}
use Rattle.tpm_pcap.specs.declared.message.Measure.{Measure}
use Rattle.tpm_pcap.specs.Numbers.{number2, number4}

-- TPM_ST_NO_SESSIONS, TPM_ST_SESSIONS and TPM_ST_RSP_COMMAND (Part 2, 6.9)
abbrev pub is_tag : ℕ → Bool
is_tag tag = tag == 0x8001 || (tag == 0x8002 || tag == 0x00c4)

-- a message of a frame of so many bytes, at most 4,096, with bytes before it and behind
abbrev pub of_size : (before size behind : ℕ) → List ℕ → Measure
of_size before size behind held =
    if nat_lt 4096 size then Broken
    else if length held == before + size + behind then Frame before size
    else More

-- swtpm: the frame states its size behind its tag (Part 1, "Command/Response Structure"), of 10 at least
abbrev pub bare : List ℕ → Measure
bare held =
    if nat_lt (length held) 6 then More
    else if nat_lt (number4 held 2) 10 then Broken
    else of_size 0 (number4 held 2) 0 held

-- mssim, to the simulator: TPM_SESSION_END (20) alone, or TPM_SEND_COMMAND (8), the locality, and a size before the
-- command (TPM 2.0 reference code, TpmTcpProtocol.h)
abbrev pub to_simulator : List ℕ → Measure
to_simulator held =
    if nat_lt (length held) 4 then More
    else if number4 held 0 == 20 then Silent
    else if not (number4 held 0 == 8) then Broken
    else if nat_lt (length held) 9 then More
    else of_size 9 (number4 held 5) 0 held

-- mssim, from the simulator: a size, the response, and four bytes that end it
abbrev pub from_simulator : List ℕ → Measure
from_simulator held =
    if nat_lt (length held) 4 then More
    else of_size 4 (number4 held 0) 4 held

abbrev pub mssim : (to_tpm : Bool) → List ℕ → Measure
mssim true held = to_simulator held
mssim false held = from_simulator held

-- what bytes of a way are, from the beginning of a message
unfoldable pub measured : (to_tpm : Bool) → List ℕ → Measure
measured to_tpm held =
    if nat_lt (length held) 2 then More
    else if is_tag (number2 held 0) then bare held
    else if not (number2 held 0 == 0) then Broken
    else mssim to_tpm held
