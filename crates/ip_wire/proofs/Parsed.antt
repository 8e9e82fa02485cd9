-- The values of the reply to a frame are those of the reply to the parsed bytes.
use Rattle.std.proofs.Common.{ℕ, ◌≡◌, ◌↔◌, List, Some, refl, sym, subst}
use Rattle.ip_wire.specs.Frame.{Carried, IsReadWhole}
use Rattle.ip_wire.specs.FrameValue.{carried_of}
use Rattle.wire_ethernet.specs.declared.EthernetRepr.{EthernetRepr}
use Rattle.ip_wire.specs.declared.frame.Frame.{Frame}

-- a reply, by the values of the frame and by the values that the bytes parse as
abbrev pub ToFrame : (EthernetRepr → Carried → EthernetRepr → Carried → Type 0) → Frame → EthernetRepr → Carried → Type 0
ToFrame R request h c = (asked : Carried) × (carried_of request.carried ≡ Some asked) × R request.header asked h c

abbrev pub ToBytes : (EthernetRepr → Carried → EthernetRepr → Carried → Type 0) → List ℕ → EthernetRepr → Carried → Type 0
ToBytes R bytes h c = (header : EthernetRepr) × (asked : Carried) × IsReadWhole bytes header asked × R header asked h c

-- the frame was parsed from the bytes
abbrev pub IsParsed : Frame → List ℕ → Type 0
IsParsed request bytes = (v : EthernetRepr) (c : Carried) → ((request.header ≡ v) × (carried_of request.carried ≡ Some c)) ↔ IsReadWhole bytes v c

-- a reply to the frame is a reply to the bytes
pub to_bytes : (R : EthernetRepr → Carried → EthernetRepr → Carried → Type 0) (request : Frame) (bytes : List ℕ) → IsParsed request bytes
    → (h : EthernetRepr) (c : Carried) → ToFrame R request h c → ToBytes R bytes h c
to_bytes R request bytes parsed h c (asked, is, r) = (request.header, asked, (parsed request.header asked).0 (refl, is), r)

-- a reply to the bytes is a reply to the frame
pub to_frame : (R : EthernetRepr → Carried → EthernetRepr → Carried → Type 0) (request : Frame) (bytes : List ℕ) → IsParsed request bytes
    → (h : EthernetRepr) (c : Carried) → ToBytes R bytes h c → ToFrame R request h c
to_frame R request bytes parsed h c (header, asked, reads, r) =
    let same = (parsed header asked).1 reads in
    (asked, same.1, subst (λ x. R x asked h c) (sym same.0) r)

-- bytes that do not parse have no reply
pub unread : (R : EthernetRepr → Carried → EthernetRepr → Carried → Type 0) (bytes : List ℕ) → ((v : EthernetRepr) (c : Carried) → ⊥ ↔ IsReadWhole bytes v c)
    → (h : EthernetRepr) (c : Carried) → ¬ ToBytes R bytes h c
unread R bytes none h c (header, asked, reads, r) = (none header asked).1 reads
