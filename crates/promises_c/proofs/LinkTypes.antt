-- A link-layer header and the packet after it: both calls find the same EtherType, or none of them reads the header.
use Rattle.std.proofs.Common.{ℕ, ℤ, pos, negsuc, ◌≡◌, ◌≢◌, ◌∙◌, ◌-◌, nat_le, nat_lt, if◌then◌else◌, Bool, true, false, List, [], Option, None, Some, Err, Ok, Result, ap, arith, drop, length, refl, subst, sym, take}
use Rattle.std.specs.Option.{option_map_or}
use Rattle.std.proofs.lemmas.List.{length-drop, take_all}
use Rattle.wire_link.specs.Link.{link_of, link_type_of}
use Rattle.wire_link.specs.declared.link.Link.{Link}
use Rattle.wire_link.specs.declared.link.LinkFault.{LinkFault}
use Rattle.wire_link.specs.declared.link.LinkFault.TheVariants as fault
use Rattle.wire_link.specs.declared.link_type.LinkType.{LinkType}
use Rattle.wire_link.specs.declared.link_type.LinkType.TheVariants as kind
use Rattle.ip_wire.specs.Ethernet.{protocol_of}
use Rattle.ip_wire.specs.Types.{EthernetProtocol}
use Rattle.c_read.proofs.CutFrame.{carried-next}
use Rattle.c_read.proofs.CutOf.{IsStart}
use Rattle.c_read.specs.Captured.{cut_carried}
use Rattle.c_structs.specs.Codes.{reason_code}
use Rattle.c_structs.specs.Nothing.{nothing_of}
use Rattle.c_read.specs.FrameFields.{rejected, with_carried}
use Rattle.c_read.specs.Links.{carried_by, ethernet_in, fault_reason, found_or, link_or, link_reason, linked_after, linked_by, linked_headers, linked_of, with_linked}
use Rattle.c_structs.specs.Written.{max_len, usable, within}
use Rattle.c_structs.specs.declared.codes.Reason.TheVariants as reason
use Rattle.c_structs.specs.declared.types.FrameFields.{FrameFields}

-- ---- what follows keeps the Ethernet header

whole-keeps : (f : FrameFields) (p : EthernetProtocol) (bytes : List ℕ) → IsStart f → nat_lt (length bytes) f.payload_len ≡ false
    → (carried_by f p bytes).ethernet ≡ f.ethernet
whole-keeps f p bytes start whole =
    subst (λ b. (if b then cut_carried f p bytes else with_carried f p bytes).ethernet ≡ f.ethernet) (sym whole) (carried-next f p bytes start).ethernet

-- ---- the header

named : (t : LinkType) (n : ℕ) (bytes : List ℕ) → (ethernet_in t n bytes).ethertype ≡ n
named kind.Null n bytes = refl
named kind.Ethernet n bytes = refl
named kind.Loop n bytes = refl
named kind.Raw n bytes = refl
named kind.LinuxSll n bytes = refl
named kind.Ipv4 n bytes = refl
named kind.Ipv6 n bytes = refl
named kind.LinuxSll2 n bytes = refl

type-after : (bytes : List ℕ) (t : LinkType) (r : Result Link LinkFault) (old : Link) → fault_reason r ≡ 0
    → (linked_after (nothing_of (length bytes)) bytes t r).ethernet.ethertype ≡ (found_or old r).ethertype
type-after bytes t (Ok link) old read =
    let f = with_linked (nothing_of (length bytes)) t link bytes in
    let whole : nat_lt (length (drop link.offset bytes)) (length bytes - link.offset) ≡ false = let same = length-drop link.offset bytes in grind arith in
    ap (λ e. e.ethertype) (whole-keeps f (protocol_of link.ethertype) (drop link.offset bytes) refl whole) ∙ named t link.ethertype bytes
type-after bytes t (Err (fault.TooShort least)) old read = absurd (omega (arith, read))
type-after bytes t (Err fault.BadVersion) old read = absurd (omega (arith, read))

type-by : (o : Option LinkType) (bytes : List ℕ) (old : Link) → option_map_or (λ t. fault_reason (link_of t bytes)) o (reason_code reason.UnknownLink) ≡ 0
    → (option_map_or (linked_by (nothing_of (length bytes)) bytes) o (rejected (nothing_of (length bytes)) reason.UnknownLink)).ethernet.ethertype
    ≡ (option_map_or (λ t. found_or old (link_of t bytes)) o old).ethertype
type-by None bytes old read = absurd (omega (arith, read))
type-by (Some t) bytes old read = type-after bytes t (link_of t bytes) old read

-- ---- a header that is rejected

cut-rejects : (b : Bool) → reason_code (if b then reason.TooShort else reason.HeaderCut) ≢ 0
cut-rejects true = λ e. omega (arith, e)
cut-rejects false = λ e. omega (arith, e)

after-rejects : (f : FrameFields) (bytes : List ℕ) (t : LinkType) (r : Result Link LinkFault) → fault_reason r ≢ 0 → (linked_after f bytes t r).reason ≢ 0
after-rejects f bytes t (Ok link) not = absurd (not refl)
after-rejects f bytes t (Err (fault.TooShort least)) not = cut-rejects (nat_lt f.payload_len least)
after-rejects f bytes t (Err fault.BadVersion) not = λ e. omega (arith, e)

by-rejects : (o : Option LinkType) (f : FrameFields) (bytes : List ℕ) → option_map_or (λ t. fault_reason (link_of t bytes)) o (reason_code reason.UnknownLink) ≢ 0
    → (option_map_or (linked_by f bytes) o (rejected f reason.UnknownLink)).reason ≢ 0
by-rejects None f bytes not = λ e. omega (arith, e)
by-rejects (Some t) f bytes not = after-rejects f bytes t (link_of t bytes) not

-- ---- the packet

type-of : (number : ℕ) (bytes : List ℕ) (old : Link) → link_reason number bytes ≡ 0
    → (linked_of number bytes (length bytes)).ethernet.ethertype ≡ (link_or number bytes old).ethertype
unfolding linked_of linked_headers
type-of number bytes old read = type-by (link_type_of number) bytes old read

rejects-of : (number : ℕ) (bytes : List ℕ) → link_reason number bytes ≢ 0 → (linked_of number bytes (length bytes)).reason ≢ 0
unfolding linked_of linked_headers
rejects-of number bytes not = by-rejects (link_type_of number) (nothing_of (length bytes)) bytes not

-- ---- bytes that are used

choice-len : (b : Bool) (bytes : List ℕ) → (if b then length bytes else 0) ≡ length (if b then bytes else [])
choice-len true bytes = refl
choice-len false bytes = refl

used-len : (bytes : List ℕ) → usable (length bytes) ≡ length (within bytes)
unfolding usable within
used-len bytes = choice-len (nat_le (length bytes) max_len) bytes

-- the packet of a link type, of which all bytes are there
abbrev packet_of : ℕ → List ℕ → FrameFields
packet_of number bytes = linked_of number bytes (length bytes)

all-used : (number : ℕ) (bytes : List ℕ) (frame : FrameFields)
    → frame ≡ linked_of number (take (usable (length bytes)) (within bytes)) (usable (length bytes))
    → frame ≡ packet_of number (within bytes)
all-used number bytes frame is =
    let w = within bytes in
    let same : take (usable (length bytes)) w ≡ w = ap (λ n. take n w) (used-len bytes) ∙ take_all (length w) w (omega arith) in
    is ∙ ap (λ (l : List ℕ). linked_of number l (usable (length bytes))) same ∙ ap (λ n. linked_of number w n) (used-len bytes)

-- ---- the two calls

abbrev count : ℤ → ℕ
count (pos n) = n
count (negsuc n) = 0

pub same_type : (number : ℕ) (bytes : List ℕ) (old new : Link) (frame : FrameFields) (a : ℤ) → new ≡ link_or number (within bytes) old
    → a ≡ pos (link_reason number (within bytes))
    → frame ≡ linked_of number (take (usable (length bytes)) (within bytes)) (usable (length bytes))
    → a ≡ pos 0 → frame.ethernet.ethertype ≡ new.ethertype
same_type number bytes old new frame a found returned is read =
    let w = within bytes in
    let none : link_reason number w ≡ 0 = ap count (sym returned ∙ read) in
    ap (λ (g : FrameFields). g.ethernet.ethertype) (all-used number bytes frame is) ∙ type-of number w old none ∙ sym (ap (λ (l : Link). l.ethertype) found)

pub both_reject : (number : ℕ) (bytes : List ℕ) (frame : FrameFields) (a b : ℤ) → a ≡ pos (link_reason number (within bytes))
    → frame ≡ linked_of number (take (usable (length bytes)) (within bytes)) (usable (length bytes))
    → b ≡ pos frame.reason → a ≢ pos 0 → b ≢ pos 0
both_reject number bytes frame a b returned is also not read =
    let w = within bytes in
    let none : frame.reason ≡ 0 = ap count (sym also ∙ read) in
    rejects-of number w (λ e. not (returned ∙ ap pos e))
    (sym (ap (λ (g : FrameFields). g.reason) (all-used number bytes frame is)) ∙ none)
