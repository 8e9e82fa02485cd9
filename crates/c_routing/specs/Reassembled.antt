-- What the calls that put packets together from their fragments return and write.
-- Pinned by: `judge`
use Rattle.std.specs.Prelude.{ℕ, ℤ, pos, ◌≡◌, ◌+◌, ◌⊎◌, Bool, true, false, Option, Some, List, drop, take}
use Rattle.std.specs.Option.{option_map_or, unwrap_or}
use Rattle.ip_wire.specs.Ethernet.{ethernet_of}
use Rattle.ip_wire.specs.IpVersion.{packet_version}
use Rattle.ip_wire.specs.Types.{EthernetProtocol}
use Rattle.ip_wire.specs.declared.EthernetProtocol.TheVariants as ethertype
use Rattle.ip_wire.specs.declared.IpVersion.{IpVersion}
use Rattle.ip_wire.specs.declared.IpVersion.TheVariants as version
use Rattle.app_fragment.specs.Partials.{Expires, Reassembles, Table, table}
use Rattle.app_fragment.specs.declared.Partial.{Partial}
use Rattle.app_fragment.specs.declared.Reassembled.{Reassembled}
use Rattle.app_fragment.specs.declared.Reassembled.TheVariants as answer
use Rattle.c_structs.specs.Written.{failure_code}
use Rattle.c_structs.specs.declared.failures.Failure.TheVariants as failure
use Rattle.c_routing.specs.Lengths.{in_bounds}

-- ---- frames

-- whether a frame of this type carries a packet of this version
abbrev pub is_type_of : EthernetProtocol → Option IpVersion → Bool
is_type_of ethertype.Ipv4 (Some version.Ipv4) = true
is_type_of ethertype.Ipv6 (Some version.Ipv6) = true
is_type_of _ _ = false

-- whether a frame carries an IP packet: its EtherType is that of the version that the packet begins with
unfoldable pub carries_ip : List ℕ → Bool
carries_ip frame = option_map_or (λ link. is_type_of link.ethertype (packet_version (drop 14 frame))) (ethernet_of frame) false

-- ---- one more fragment

-- the part of a table that is used: entries and memory of a usable length
abbrev pub in_use : Table → Table
in_use t = table (in_bounds t.partials) (in_bounds t.memory)

-- what is returned: the length of the frame with the whole packet, 0 if a part is missing, or a failure
abbrev pub answer_code : Reassembled → ℤ
answer_code answer.Incomplete = pos 0
answer_code (answer.Whole len) = pos (14 + len)
answer_code answer.Rejected = failure_code failure.NoHeader
answer_code answer.TooLong = failure_code failure.PayloadTooLong
answer_code answer.Dropped = failure_code failure.Dropped
answer_code answer.NoRoom = failure_code failure.NoRoom

-- the first 14 bytes of the output: the Ethernet header of the frame, if a packet is written after it
abbrev pub link_after : Reassembled → List ℕ → List ℕ → List ℕ
link_after (answer.Whole len) link before = link
link_after _ link before = before

-- The packet of a frame comes to the table. If the whole packet is written, it is after the Ethernet header of the frame.
pub record ReassemblesPacket (old new : Table) (now : ℕ) (frame before after : List ℕ) (code : ℤ) : Type 0 where
  pub given : Reassembled
  pub is : code ≡ answer_code given
  pub link : take 14 after ≡ link_after given (take 14 frame) (take 14 before)
  pub packet : Reassembles old new now (take 14 frame) (drop 14 frame) (drop 14 before) (drop 14 after) given

-- A frame that carries no IP packet is rejected, and nothing is changed.
pub record IsNoPacket (old new : Table) (frame before after : List ℕ) (code : ℤ) : Type 0 where
  pub none : carries_ip frame ≡ false
  pub is : code ≡ failure_code failure.NoHeader
  pub kept : new ≡ old
  pub unwritten : after ≡ before

-- A frame that carries an IP packet comes to the part of the table that is used. An output that is not used has no room.
pub record IsPacket (old new : Table) (now : ℕ) (frame before after : List ℕ) (code : ℤ) : Type 0 where
  pub some : carries_ip frame ≡ true
  pub packet : ReassemblesPacket (in_use old) (in_use new) now frame (in_bounds before) (in_bounds after) code

-- what the call does with a frame
abbrev pub ReassemblesFrame : Table → Table → ℕ → List ℕ → List ℕ → List ℕ → ℤ → Type 0
ReassemblesFrame old new now frame before after code =
    IsNoPacket old new frame before after code ⊎ IsPacket old new now frame before after code

-- ---- packets whose time is over

-- the length of the frame with a first fragment is returned; or 0 if none is written
pub record ExpiresFrame (old : Table) (new : List Partial) (now : ℕ) (before after : List ℕ) (len : ℕ) : Type 0 where
  pub found : Option ℕ
  pub is : len ≡ unwrap_or found 0
  pub expires : Expires (in_use old) (in_bounds new) now (in_bounds before) (in_bounds after) found
