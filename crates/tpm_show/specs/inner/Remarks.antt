-- What is told in place of a frame, as the program has it.
use Rattle.std.specs.Prelude.{List}
use Rattle.tpm_show.specs.declared.remark.Remark.TheVariants.{Fault, Stop, Packet, NoCapture, NoPacket, OtherLink}
use Rattle.tpm_show.specs.declared.remark.Remark.{Remark}
use Rattle.tpm_show.specs.Pieces.{Piece}
use Rattle.tpm_show.specs.Reports.{fault_at_told, fault_told, link_fault, no_capture_told, no_packet, numbered_told}
use Rattle.tpm_show.specs.Reports.{packet_fault_told, stop_told}

abbrev pub remark_told : Remark → List Piece
remark_told (Fault number fault) = numbered_told number fault.now
remark_told (Stop number fault at) = stop_told number fault.now at
remark_told (Packet packet reason) = packet_fault_told packet reason.now
remark_told NoCapture = no_capture_told
remark_told (NoPacket port) = fault_told (no_packet port)
remark_told (OtherLink number) = fault_at_told (link_fault number) 20
