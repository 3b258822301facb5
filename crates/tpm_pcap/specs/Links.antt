-- What stands before a packet of the internet (libpcap, "Link-layer header types").
use Rattle.std.specs.Prelude.{ℕ, ◌==◌, ◌||◌, Bool, true, List, Option, Some, None, if◌then◌else◌}
use Rattle.tpm_pcap.specs.declared.link.Link.TheVariants.{Raw, Loopback, Ethernet, Cooked, Cooked2}
use Rattle.tpm_pcap.specs.declared.link.Link.{Link}
use Rattle.tpm_pcap.specs.Numbers.{number2}

-- LINKTYPE_NULL and LINKTYPE_LOOP, LINKTYPE_ETHERNET, LINKTYPE_RAW, LINKTYPE_IPV4 and LINKTYPE_IPV6,
-- LINKTYPE_LINUX_SLL, LINKTYPE_LINUX_SLL2
abbrev pub link_of : ℕ → Option Link
link_of number =
    if number == 0 || number == 108 then Some Loopback
    else if number == 1 then Some Ethernet
    else if number == 101 || (number == 228 || number == 229) then Some Raw
    else if number == 113 then Some Cooked
    else if number == 276 then Some Cooked2
    else None

-- how many bytes
abbrev pub head_size : Link → ℕ
head_size Raw = 0
head_size Loopback = 4
head_size Ethernet = 14
head_size Cooked = 16
head_size Cooked2 = 20

-- the types of IPv4 and IPv6 (IEEE 802 numbers)
abbrev pub is_internet : ℕ → Bool
is_internet kind = kind == 0x0800 || kind == 0x86dd

-- A packet of the internet stands behind this head, which tells the type of what does.
abbrev pub carries_internet : Link → (head : List ℕ) → Bool
carries_internet Raw head = true
carries_internet Loopback head = true
carries_internet Ethernet head = is_internet (number2 head 12)
carries_internet Cooked head = is_internet (number2 head 14)
carries_internet Cooked2 head = is_internet (number2 head 0)
