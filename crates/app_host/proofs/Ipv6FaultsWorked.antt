-- Packets with the fault that RFC 8200, sections 4, 4.2, 4.4 and 4.5, says. Scapy packed those without fragments, and those
-- with fragments are written by hand. Data after the second byte of an ICMPv6 message is left out.
use Rattle.std.proofs.Common.{◌≡◌, Some, None, [], ◌∷◌, refl}
use Rattle.app_host.specs.Ipv6Fault.{fault_of}
use Rattle.app_host.specs.declared.icmp_error.About.TheVariants.{Fragments, Groups, Hosts}
use Rattle.app_host.specs.declared.ipv6_fault.Fault.TheVariants.{Silent, Reported}

-- hop-by-hop options with PadN, then destination options with Pad1, type 0x1e, which is skipped, and PadN
padded : fault_of 0 (60 ∷ 0 ∷ 1 ∷ 2 ∷ 0 ∷ 0 ∷ 1 ∷ 0 ∷ 58 ∷ 0 ∷ 0 ∷ 30 ∷ 1 ∷ 0 ∷ 1 ∷ 0 ∷ 128 ∷ 0 ∷ []) ≡ None
unfolding fault_of
padded = refl

-- a destination option of type 0x5e: discarded without an error
silent : fault_of 60 (58 ∷ 0 ∷ 94 ∷ 2 ∷ 0 ∷ 0 ∷ 1 ∷ 0 ∷ 128 ∷ 0 ∷ []) ≡ Some Silent
unfolding fault_of
silent = refl

-- type 0x9e after PadN of 5 bytes: reported to a sender to groups too
group : fault_of 60 (58 ∷ 1 ∷ 1 ∷ 3 ∷ 0 ∷ 0 ∷ 0 ∷ 158 ∷ 6 ∷ 1 ∷ 2 ∷ 3 ∷ 4 ∷ 5 ∷ 6 ∷ 0 ∷ 128 ∷ 0 ∷ []) ≡ Some (Reported 2 47 Groups)
unfolding fault_of
group = refl

-- type 0xde in hop-by-hop options: reported, but not to a sender to groups
no_group : fault_of 0 (17 ∷ 0 ∷ 222 ∷ 4 ∷ 1 ∷ 2 ∷ 3 ∷ 4 ∷ 156 ∷ 64 ∷ 0 ∷ 9 ∷ 0 ∷ 9 ∷ 144 ∷ 29 ∷ 120 ∷ []) ≡ Some (Reported 2 42 Hosts)
unfolding fault_of
no_group = refl

-- routing of type 0 after hop-by-hop options, with one segment left: the pointer is to the type
routed : fault_of 0 (43 ∷ 0 ∷ 1 ∷ 4 ∷ 0 ∷ 0 ∷ 0 ∷ 0 ∷ 17 ∷ 2 ∷ 0 ∷ 1 ∷ 0 ∷ 0 ∷ 0 ∷ 0 ∷ 32 ∷ 1 ∷ 13 ∷ 184 ∷ 0 ∷ 0 ∷ 0 ∷ 0 ∷ 0 ∷ 0 ∷ 0 ∷ 0 ∷ 0 ∷ 0 ∷ 0 ∷ 3 ∷ 156 ∷ 64 ∷ []) ≡ Some (Reported 0 50 Hosts)
unfolding fault_of
routed = refl

-- the same with no segment left
arrived : fault_of 43 (58 ∷ 2 ∷ 0 ∷ 0 ∷ 0 ∷ 0 ∷ 0 ∷ 0 ∷ 32 ∷ 1 ∷ 13 ∷ 184 ∷ 0 ∷ 0 ∷ 0 ∷ 0 ∷ 0 ∷ 0 ∷ 0 ∷ 0 ∷ 0 ∷ 0 ∷ 0 ∷ 3 ∷ 128 ∷ 0 ∷ []) ≡ None
unfolding fault_of
arrived = refl

-- hop-by-hop options after destination options: the pointer is to the number of the next header
late : fault_of 60 (0 ∷ 0 ∷ 1 ∷ 4 ∷ 0 ∷ 0 ∷ 0 ∷ 0 ∷ 58 ∷ 0 ∷ 1 ∷ 4 ∷ 0 ∷ 0 ∷ 0 ∷ 0 ∷ 128 ∷ 0 ∷ []) ≡ Some (Reported 1 40 Hosts)
unfolding fault_of
late = refl

-- SCTP (132) after destination options, and directly
unknown : fault_of 60 (132 ∷ 0 ∷ 1 ∷ 4 ∷ 0 ∷ 0 ∷ 0 ∷ 0 ∷ 1 ∷ 2 ∷ 3 ∷ 4 ∷ []) ≡ Some (Reported 1 40 Hosts)
unfolding fault_of
unknown = refl

direct : fault_of 132 (1 ∷ 2 ∷ 3 ∷ 4 ∷ []) ≡ Some (Reported 1 6 Hosts)
unfolding fault_of
direct = refl

-- an option that is longer than its header, and a header that is longer than the packet
long_option : fault_of 60 (58 ∷ 0 ∷ 1 ∷ 5 ∷ 0 ∷ 0 ∷ 0 ∷ 0 ∷ 128 ∷ 0 ∷ []) ≡ Some (Reported 0 43 Hosts)
unfolding fault_of
long_option = refl

cut : fault_of 60 (58 ∷ 1 ∷ 1 ∷ 12 ∷ 0 ∷ 0 ∷ 0 ∷ 0 ∷ 128 ∷ 0 ∷ []) ≡ Some Silent
unfolding fault_of
cut = refl

-- no next header (59)
nothing : fault_of 59 [] ≡ None
unfolding fault_of
nothing = refl

-- ---- fragments, by the diagrams of section 4.5

-- the first fragment of a packet: what follows its header has no fault, not even the option of type 0x9e
fragment : fault_of 44 (60 ∷ 0 ∷ 0 ∷ 1 ∷ 0 ∷ 0 ∷ 0 ∷ 9 ∷ 58 ∷ 0 ∷ 158 ∷ 4 ∷ 0 ∷ 0 ∷ 0 ∷ 0 ∷ 128 ∷ 0 ∷ 0 ∷ 0 ∷ 0 ∷ 7 ∷ 0 ∷ 1 ∷ []) ≡ None
unfolding fault_of
fragment = refl

-- 9 bytes, and more fragments follow, in the first fragment and in one at offset 8; the last fragment has any length
odd : fault_of 44 (17 ∷ 0 ∷ 0 ∷ 1 ∷ 0 ∷ 0 ∷ 0 ∷ 9 ∷ 156 ∷ 64 ∷ 0 ∷ 9 ∷ 0 ∷ 16 ∷ 0 ∷ 0 ∷ 0 ∷ []) ≡ Some (Reported 0 4 Fragments)
unfolding fault_of
odd = refl

later_odd : fault_of 44 (17 ∷ 0 ∷ 0 ∷ 9 ∷ 0 ∷ 0 ∷ 0 ∷ 9 ∷ 1 ∷ 2 ∷ 3 ∷ 4 ∷ 5 ∷ 6 ∷ 7 ∷ 8 ∷ 9 ∷ []) ≡ Some (Reported 0 4 Fragments)
unfolding fault_of
later_odd = refl

last : fault_of 44 (17 ∷ 0 ∷ 0 ∷ 8 ∷ 0 ∷ 0 ∷ 0 ∷ 9 ∷ 1 ∷ 2 ∷ 3 ∷ 4 ∷ 5 ∷ 6 ∷ 7 ∷ 8 ∷ 9 ∷ []) ≡ None
unfolding fault_of
last = refl

-- 7 bytes at offset 65,528 are the last ones of the longest payload; 8 are too many, and so are 7 after hop-by-hop options
longest : fault_of 44 (17 ∷ 0 ∷ 255 ∷ 248 ∷ 0 ∷ 0 ∷ 0 ∷ 9 ∷ 1 ∷ 2 ∷ 3 ∷ 4 ∷ 5 ∷ 6 ∷ 7 ∷ []) ≡ None
unfolding fault_of
longest = refl

too_long : fault_of 44 (17 ∷ 0 ∷ 255 ∷ 248 ∷ 0 ∷ 0 ∷ 0 ∷ 9 ∷ 1 ∷ 2 ∷ 3 ∷ 4 ∷ 5 ∷ 6 ∷ 7 ∷ 8 ∷ []) ≡ Some (Reported 0 42 Fragments)
unfolding fault_of
too_long = refl

too_long_after : fault_of 0 (44 ∷ 0 ∷ 1 ∷ 4 ∷ 0 ∷ 0 ∷ 0 ∷ 0 ∷ 17 ∷ 0 ∷ 255 ∷ 248 ∷ 0 ∷ 0 ∷ 0 ∷ 9 ∷ 1 ∷ 2 ∷ 3 ∷ 4 ∷ 5 ∷ 6 ∷ 7 ∷ []) ≡ Some (Reported 0 50 Fragments)
unfolding fault_of
too_long_after = refl

-- 16 of the 20 bytes of TCP in the first fragment, and 24 bytes
tcp_cut : fault_of 44 (6 ∷ 0 ∷ 0 ∷ 1 ∷ 0 ∷ 0 ∷ 0 ∷ 9 ∷ 156 ∷ 64 ∷ 0 ∷ 80 ∷ 0 ∷ 0 ∷ 0 ∷ 1 ∷ 0 ∷ 0 ∷ 0 ∷ 0 ∷ 80 ∷ 2 ∷ 4 ∷ 0 ∷ []) ≡ Some (Reported 3 0 Fragments)
unfolding fault_of
tcp_cut = refl

tcp : fault_of 44 (6 ∷ 0 ∷ 0 ∷ 1 ∷ 0 ∷ 0 ∷ 0 ∷ 9 ∷ 156 ∷ 64 ∷ 0 ∷ 80 ∷ 0 ∷ 0 ∷ 0 ∷ 1 ∷ 0 ∷ 0 ∷ 0 ∷ 0 ∷ 80 ∷ 2 ∷ 4 ∷ 0 ∷ 0 ∷ 0 ∷ 0 ∷ 0 ∷ 1 ∷ 2 ∷ 3 ∷ 4 ∷ []) ≡ None
unfolding fault_of
tcp = refl

-- 8 bytes of UDP, 4 after an authentication header of 20, and none of SCTP
udp : fault_of 44 (17 ∷ 0 ∷ 0 ∷ 1 ∷ 0 ∷ 0 ∷ 0 ∷ 9 ∷ 156 ∷ 64 ∷ 0 ∷ 9 ∷ 0 ∷ 16 ∷ 0 ∷ 0 ∷ []) ≡ None
unfolding fault_of
udp = refl

udp_cut : fault_of 44 (51 ∷ 0 ∷ 0 ∷ 1 ∷ 0 ∷ 0 ∷ 0 ∷ 9 ∷ 17 ∷ 3 ∷ 0 ∷ 0 ∷ 0 ∷ 0 ∷ 16 ∷ 0 ∷ 0 ∷ 0 ∷ 0 ∷ 1 ∷ 1 ∷ 2 ∷ 3 ∷ 4 ∷ 5 ∷ 6 ∷ 7 ∷ 8 ∷ 156 ∷ 64 ∷ 0 ∷ 9 ∷ []) ≡ Some (Reported 3 0 Fragments)
unfolding fault_of
udp_cut = refl

sctp_missing : fault_of 44 (132 ∷ 0 ∷ 0 ∷ 1 ∷ 0 ∷ 0 ∷ 0 ∷ 9 ∷ []) ≡ Some (Reported 3 0 Fragments)
unfolding fault_of
sctp_missing = refl

-- destination options of 16 bytes, 8 of which are in the first fragment, and all of which are in a later one
options_cut : fault_of 44 (60 ∷ 0 ∷ 0 ∷ 1 ∷ 0 ∷ 0 ∷ 0 ∷ 9 ∷ 17 ∷ 1 ∷ 1 ∷ 12 ∷ 0 ∷ 0 ∷ 0 ∷ 0 ∷ []) ≡ Some (Reported 3 0 Fragments)
unfolding fault_of
options_cut = refl

later_options : fault_of 44 (60 ∷ 0 ∷ 0 ∷ 17 ∷ 0 ∷ 0 ∷ 0 ∷ 9 ∷ 17 ∷ 1 ∷ 1 ∷ 12 ∷ 0 ∷ 0 ∷ 0 ∷ 0 ∷ []) ≡ None
unfolding fault_of
later_options = refl

-- no next header after the fragment header; 4 bytes of ICMPv6 after an authentication header of 20
ended : fault_of 44 (59 ∷ 0 ∷ 0 ∷ 1 ∷ 0 ∷ 0 ∷ 0 ∷ 9 ∷ []) ≡ None
unfolding fault_of
ended = refl

authenticated : fault_of 44 (51 ∷ 0 ∷ 0 ∷ 1 ∷ 0 ∷ 0 ∷ 0 ∷ 9 ∷ 58 ∷ 3 ∷ 0 ∷ 0 ∷ 0 ∷ 0 ∷ 16 ∷ 0 ∷ 0 ∷ 0 ∷ 0 ∷ 1 ∷ 1 ∷ 2 ∷ 3 ∷ 4 ∷ 5 ∷ 6 ∷ 7 ∷ 8 ∷ 128 ∷ 0 ∷ 0 ∷ 0 ∷ []) ≡ None
unfolding fault_of
authenticated = refl

-- ---- a whole packet with a fragment header

-- destination options of type 0x9e after an atomic fragment header, whose reserved byte is 7 (RFC 6946)
atomic : fault_of 44 (60 ∷ 7 ∷ 0 ∷ 0 ∷ 0 ∷ 0 ∷ 0 ∷ 9 ∷ 58 ∷ 0 ∷ 158 ∷ 4 ∷ 0 ∷ 0 ∷ 0 ∷ 0 ∷ 128 ∷ 0 ∷ []) ≡ Some (Reported 2 50 Groups)
unfolding fault_of
atomic = refl
