-- One edit of a frame.
use Rattle.std.specs.Prelude.{ℕ, ⊤, ◌≡◌, ◌+◌, List, Option, Some, length}
use Rattle.ip_wire.specs.IpAddress.{IsAddress, address_bytes}
use Rattle.app_edit.specs.Edited.{addr_set, address_place, bytes_set, dscp_set, hop_limit_place, hop_limit_set, port_place, port_set}
use Rattle.app_edit.specs.Offsets.{dscp_end, ip_header}
use Rattle.app_edit.specs.Outside.{IsOutside}
use Rattle.app_edit.specs.declared.laws.Edit.{Edit}
use Rattle.app_edit.specs.declared.laws.Edit.TheVariants as edit
use Rattle.app_edit.specs.declared.places.Places.{Places}
use Rattle.app_edit.specs.declared.replace.Offload.{Offload}

-- the frame after an edit, if there is what it sets
abbrev pub edit_made : Offload → List ℕ → Edit → Option (List ℕ)
edit_made o frame (edit.HopLimit n) = hop_limit_set frame n
edit_made o frame (edit.Dscp n) = dscp_set frame n
edit_made o frame (edit.Addr side a) = addr_set o frame side a
edit_made o frame (edit.Port side n) = port_set o frame side n
edit_made o frame (edit.Bytes at bytes) = bytes_set o frame at bytes.now

-- the address of an edit, if it has one, has as many bytes as its version has
abbrev pub HasAddress : Edit → Type 0
HasAddress (edit.Addr side a) = IsAddress a
HasAddress _ = ⊤

-- byte i is none of those that an edit sets
abbrev pub IsBeside : Edit → Places → ℕ → Type 0
IsBeside (edit.HopLimit n) p i = IsOutside (hop_limit_place p.version) (hop_limit_place p.version + 1) i
IsBeside (edit.Dscp n) p i = IsOutside ip_header dscp_end i
IsBeside (edit.Addr side a) p i = IsOutside (address_place side p.version) (address_place side p.version + length (address_bytes a)) i
IsBeside (edit.Port side n) p i = (at : ℕ) → port_place side p.carried ≡ Some at → IsOutside at (at + 2) i
IsBeside (edit.Bytes at bytes) p i = IsOutside at (at + length bytes.now) i
