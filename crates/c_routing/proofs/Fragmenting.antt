-- Which packets are cut, where their fragments begin, and how long they are.
use Rattle.std.proofs.Common.{ℕ, ℤ, pos, ◌≡◌, ◌≤◌, ◌<◌, ◌+◌, ◌-◌, ◌⊎◌, ◌↔◌, ◌++◌, ◌∙◌, inl, inr, Bool, true, false, cond, if◌then◌else◌, not, IsSome, Option, None, Some, List, drop, length, slice_range, take, ap, refl, sym, subst, append_assoc, arith, length-append, length-drop}
use Rattle.std.proofs.lemmas.Bool.Decides.{nat_tests}
use Rattle.std.proofs.lemmas.List.{drop-drop, length-take-le}
use Rattle.std.proofs.lemmas.Option.{none-some}
use Rattle.std.specs.Option.{option_map, option_map_or, unwrap_or}
use Rattle.ip_wire.proofs.Spelled.{AreBytes}
use Rattle.ip_wire.specs.Ethernet.{ethernet_of}
use Rattle.ip_wire.specs.HeaderFault.{ipv4_fault}
use Rattle.ip_wire.specs.Ipv4.{header_len, ip_version_of, ipv4_of, total_len}
use Rattle.ip_wire.specs.Ipv4 as ipv4_header
use Rattle.ip_wire.specs.Ipv6 as ipv6
use Rattle.ip_wire.specs.Types.{EthernetRepr, Ipv4Repr, Ipv6Repr}
use Rattle.ip_wire.specs.declared.EthernetProtocol.TheVariants.{Ipv4, Ipv6}
use Rattle.app_fragment.proofs.Cuts.{next-order}
use Rattle.app_fragment.proofs.Headers.{header-is_header}
use Rattle.app_fragment.proofs.Ipv6Headers.{fragment-length, place-begins}
use Rattle.app_fragment.proofs.Numbers.{numbered-begins}
use Rattle.app_fragment.proofs.Pieces.{length-part}
use Rattle.app_fragment.proofs.Versions.{four, six}
use Rattle.app_fragment.specs.Ipv4Fragments.{IsIpv4, fragment_bytes, fragment_header, fragment_len, next_place, payload_len}
use Rattle.app_fragment.specs.Ipv4Fragments as v4
use Rattle.app_fragment.specs.Ipv6Fragments as v6
use Rattle.app_fragment.specs.declared.ipv4.Written.{Written}
use Rattle.c_structs.specs.Written.{Fills, Writes, max_len}
use Rattle.c_structs.specs.declared.failures.Failure.{Failure}
use Rattle.c_structs.specs.declared.failures.Failure.TheVariants as failure
use Rattle.c_routing.specs.Fragmented.{HasLengths, MayBeWritten, WritesFragment, fragment_at, fragment_failure, fragment_frame, frame_at, ident_of, ipv4_at, ipv4_failure, ipv6_at, ipv6_failure, is_extension, is_ident, is_long, packet_failure, packet_of, place_of}

-- ---- which packets are cut

valid-ipv4 : (bytes : List ℕ) → ipv4_fault bytes ≡ None → IsIpv4 bytes
unfolding ipv4_of
valid-ipv4 bytes none = grind (arith, nat_tests, none)

-- a packet that parses has no fault
sound : (bytes : List ℕ) (v : Ipv4Repr) → ipv4_header.Reads bytes true v → ipv4_fault bytes ≡ None
unfolding ipv4_of
sound bytes v r = grind (arith, nat_tests, r)

pub found-ipv4 : (frame : List ℕ) (link : EthernetRepr) (v : Ipv4Repr) → ethernet_of frame ≡ Some link → link.ethertype ≡ Ipv4
    → ipv4_header.Reads (drop 14 frame) true v → packet_of frame ≡ Some (drop 14 frame)
found-ipv4 frame link v some is r = rw (some, is, sound (drop 14 frame) v r) refl

pub lengths-ipv4 : (bytes : List ℕ) (v : Ipv4Repr) → ipv4_header.Reads bytes true v → HasLengths bytes
lengths-ipv4 bytes v r = let valid = valid-ipv4 bytes (sound bytes v r) in inl (valid.version, valid.lengths)

sound-ipv6 : (bytes : List ℕ) (v : Ipv6Repr) → ipv6.Reads bytes v → ipv6.is_read bytes ≡ true
sound-ipv6 bytes v r = grind (arith, nat_tests, r.lengths, r.version)

pub lengths-ipv6 : (bytes : List ℕ) (v : Ipv6Repr) → ipv6.Reads bytes v → HasLengths bytes
lengths-ipv6 bytes v r = inr (r.version, r.lengths)

pub found-ipv6 : (frame : List ℕ) (link : EthernetRepr) (v : Ipv6Repr) → ethernet_of frame ≡ Some link → link.ethertype ≡ Ipv6
    → ipv6.Reads (drop 14 frame) v → packet_of frame ≡ Some (drop 14 frame)
found-ipv6 frame link v some is r = rw (some, is, sound-ipv6 (drop 14 frame) v r) refl

pub none-ipv6 : (frame : List ℕ) (link : EthernetRepr) → ethernet_of frame ≡ Some link → link.ethertype ≡ Ipv6 → ipv6.ipv6_of (drop 14 frame) ≡ None
    → packet_of frame ≡ None
unfolding ipv6.ipv6_of
none-ipv6 frame link some is none = rw (some, is) (by (ipv6.is_read (drop 14 frame)) none)
  where
    by : (b : Bool) → cond b (Some (ipv6.header_of (drop 14 frame))) None ≡ None → cond b (Some (drop 14 frame)) None ≡ None
    by true e = absurd (none-some _ (sym e))
    by false e = refl

-- the header is valid
pub record IsIpv6 (bytes : List ℕ) : Type 0 where
  pub lengths : ipv6.HasLengths bytes
  pub version : ip_version_of bytes ≡ 6

valid-ipv6 : (bytes : List ℕ) → ipv6.is_read bytes ≡ true → IsIpv6 bytes
valid-ipv6 bytes is = grind (arith, nat_tests, is)

-- The packet may be cut, and the MTU has room for 8 bytes of its payload, or for all. By its version.
abbrev pub MayBeCut : Option ℕ → ℕ → List ℕ → Type 0
MayBeCut ident mtu bytes =
    ((is_long ident ≡ false) × v4.MayBeFragmented ident bytes mtu × ((header_len bytes + 8 ≤ mtu) ⊎ (total_len bytes ≤ mtu)))
    ⊎ (v6.MayBeFragmented bytes mtu × ((56 ≤ mtu) ⊎ (ipv6.total_len bytes ≤ mtu)))

-- the frame has a packet that may be cut
pub record IsCut (ident : Option ℕ) (mtu : ℕ) (frame : List ℕ) : Type 0 where
  pub whole : 14 ≤ length frame
  pub may : MayBeCut ident mtu (drop 14 frame)

may-ipv4 : (ident : Option ℕ) (mtu : ℕ) (bytes : List ℕ) → IsIpv4 bytes → ipv4_failure ident mtu bytes ≡ None
    → (is_long ident ≡ false) × v4.MayBeFragmented ident bytes mtu × ((header_len bytes + 8 ≤ mtu) ⊎ (total_len bytes ≤ mtu))
may-ipv4 None mtu bytes valid none =
    (refl, record { valid = valid; allowed = grind (arith, nat_tests, none); within = grind (arith, nat_tests, none) }, grind (arith, nat_tests, none))
may-ipv4 (Some n) mtu bytes valid none =
    (grind (arith, nat_tests, none), record { valid = valid; allowed = grind (arith, nat_tests, none); within = grind (arith, nat_tests, none) }, grind (arith, nat_tests, none))

no-extension : (next : ℕ) → is_extension next ≡ false → ¬ (v6.IsExtension next)
no-extension next e is = grind (arith, nat_tests, e, is)

may-ipv6 : (ident : Option ℕ) (mtu : ℕ) (bytes : List ℕ) → IsIpv6 bytes → ipv6_failure ident mtu bytes ≡ None
    → v6.MayBeFragmented bytes mtu × ((56 ≤ mtu) ⊎ (ipv6.total_len bytes ≤ mtu))
may-ipv6 ident mtu bytes valid none =
    (record { lengths = valid.lengths; version = valid.version; allowed = grind (arith, nat_tests, none, no-extension) }, grind (arith, nat_tests, none))

may : (ident : Option ℕ) (mtu : ℕ) (bytes : List ℕ) → IsIpv4 bytes ⊎ IsIpv6 bytes → packet_failure ident mtu bytes ≡ None → MayBeCut ident mtu bytes
may ident mtu bytes (inl valid) none = inl (may-ipv4 ident mtu bytes valid (sym (four bytes (ipv4_failure ident mtu bytes) (ipv6_failure ident mtu bytes) valid.version) ∙ none))
may ident mtu bytes (inr valid) none = inr (may-ipv6 ident mtu bytes valid (sym (six bytes (ipv4_failure ident mtu bytes) (ipv6_failure ident mtu bytes) valid.version) ∙ none))

-- a packet of a frame is after its Ethernet header, and has a valid header
pub record IsPacketOf (frame bytes : List ℕ) : Type 0 where
  pub whole : 14 ≤ length frame
  pub is : bytes ≡ drop 14 frame
  pub valid : (ipv4_fault bytes ≡ None) ⊎ (ipv6.is_read bytes ≡ true)

packet-is : (frame bytes : List ℕ) → packet_of frame ≡ Some bytes → IsPacketOf frame bytes
unfolding ethernet_of
packet-is frame bytes some = grind (arith, nat_tests, some)

no-failure : (b : Bool) (ident : Option ℕ) (mtu : ℕ) (p : Option (List ℕ))
    → (if not b then Some failure.BadField else option_map_or (packet_failure ident mtu) p (Some failure.NoHeader)) ≡ None
    → (bytes : List ℕ) × (p ≡ Some bytes) × (packet_failure ident mtu bytes ≡ None)
no-failure false ident mtu p none = absurd (none-some _ (sym none))
no-failure true ident mtu None none = absurd (none-some _ (sym none))
no-failure true ident mtu (Some bytes) none = (bytes, refl, none)

pub cut : (ident : ℤ) (mtu : ℕ) (frame : List ℕ) → fragment_failure ident mtu frame ≡ None → IsCut (ident_of ident) mtu frame
unfolding fragment_failure
cut ident mtu frame none =
    let (bytes, some, able) = no-failure (is_ident ident) (ident_of ident) mtu (packet_of frame) none in
    let packet = packet-is frame bytes some in
    let valid : IsIpv4 bytes ⊎ IsIpv6 bytes = elim packet.valid [ inl four ↦ inl (valid-ipv4 bytes four) | inr six ↦ inr (valid-ipv6 bytes six) ] in
    record { whole = packet.whole; may = subst (MayBeCut (ident_of ident) mtu) packet.is (may (ident_of ident) mtu bytes valid able) }

pub has-lengths : (ident : Option ℕ) (mtu : ℕ) (bytes : List ℕ) → MayBeCut ident mtu bytes → HasLengths bytes
has-lengths ident mtu bytes (inl (short, able, room)) = inl (able.valid.version, able.valid.lengths)
has-lengths ident mtu bytes (inr (able, room)) = inr (able.version, able.lengths)

-- ---- where fragments begin

pub begins : (ident : Option ℕ) (mtu number at : ℕ) (bytes : List ℕ) → MayBeCut ident mtu bytes → place_of bytes mtu number ≡ Some at
    → MayBeWritten ident mtu bytes at
begins ident mtu number at bytes (inl (short, able, some)) is =
    let place : v4.place_of bytes mtu number ≡ Some at = sym (four bytes (v4.place_of bytes mtu number) (v6.place_of bytes mtu number) able.valid.version) ∙ is in
    let (multiple, inside) = numbered-begins (mtu - header_len bytes) (payload_len bytes) number at place in
    let room : (header_len bytes + 8 ≤ mtu) ⊎ (header_len bytes + (payload_len bytes - at) ≤ mtu) =
    elim some [ inl least ↦ inl least | inr all ↦ inr (omega (arith, all, able.valid.lengths.within)) ] in
    inl (short, able, record { multiple = multiple; inside = inside; room = room })
begins ident mtu number at bytes (inr (able, some)) is =
    let place : v6.place_of bytes mtu number ≡ Some at = sym (six bytes (v4.place_of bytes mtu number) (v6.place_of bytes mtu number) able.version) ∙ is in
    inr (able, place-begins bytes mtu number at some place)

-- ---- how long they are

length-ipv4 : (ident : Option ℕ) (mtu at : ℕ) (bytes : List ℕ) → AreBytes bytes → v4.MayBeFragmented ident bytes mtu → v4.MayBegin bytes at mtu
    → length (ipv4_at ident mtu bytes at) ≡ fragment_len bytes at (next_place bytes at mtu)
length-ipv4 ident mtu at bytes are able begin =
    let next = next_place bytes at mtu in
    let (order, within) = next-order bytes at mtu begin in
    let header = (header-is_header ident bytes at next are able.valid.lengths).long in
    let part = length-part bytes (header_len bytes + at) (header_len bytes + next) (omega (arith, within, able.valid.lengths.within, able.valid.lengths.whole)) in
    let fragment = length-append (fragment_header ident bytes at next) (slice_range bytes (header_len bytes + at) (header_len bytes + next)) in
    omega (arith, fragment, header, part, order)

-- the fragment of a call that wrote it, or found no room
pub filled-ipv4 : (ident : Option ℕ) (mtu at len next : ℕ) (bytes old new : List ℕ) → AreBytes bytes → v4.MayBeFragmented ident bytes mtu → v4.MayBegin bytes at mtu
    → next ≡ next_place bytes at mtu → len ≡ fragment_len bytes at next → len ≤ length old → new ≡ fragment_bytes ident bytes at next ++ drop len old
    → Fills (Some (ipv4_at ident mtu bytes at)) old new (Some len)
filled-ipv4 ident mtu at len next bytes old new are able begin is size fits made =
    (size ∙ ap (fragment_len bytes at) is ∙ sym (length-ipv4 ident mtu at bytes are able begin), fits, made ∙ ap (λ n. fragment_bytes ident bytes at n ++ drop len old) is)

either : (a b : ℕ) → (a < b) ⊎ (b ≤ a)
either a b = grind arith

pub no-room-ipv4 : (r : Option Written) (given ident : Option ℕ) (mtu at : ℕ) (bytes old new : List ℕ) → AreBytes bytes → given ≡ ident
    → v4.MayBeFragmented ident bytes mtu → v4.MayBegin bytes at mtu
    → (IsSome r ↔ (v4.MayBeFragmented given bytes mtu × v4.MayBegin bytes at mtu × (fragment_len bytes at (next_place bytes at mtu) ≤ length old)))
    → r ≡ None → new ≡ old → Fills (Some (ipv4_at ident mtu bytes at)) old new None
no-room-ipv4 (Some w) given ident mtu at bytes old new are named able begin accepted none same = absurd (none-some w (sym none))
no-room-ipv4 None given ident mtu at bytes old new are named able begin accepted none same =
    elim (either (length old) (fragment_len bytes at (next_place bytes at mtu))) [
      | inl short ↦ (omega (arith, short, length-ipv4 ident mtu at bytes are able begin), same)
      | inr fits ↦ absurd (no (accepted.1 (subst (λ i. v4.MayBeFragmented i bytes mtu) (sym named) able, begin, fits)))
    ]
  where
    no : ¬ (false ≡ true)
    no e = cc e

pub no-room-ipv6 : (r : Option Written) (ident : Option ℕ) (mtu at : ℕ) (bytes old new : List ℕ) → AreBytes bytes
    → v6.MayBeFragmented bytes mtu → v6.MayBegin bytes at mtu
    → (IsSome r ↔ (v6.MayBeFragmented bytes mtu × v6.MayBegin bytes at mtu × (v6.fragment_len bytes mtu at (v6.next_place bytes at mtu) ≤ length old)))
    → r ≡ None → new ≡ old → Fills (Some (ipv6_at ident mtu bytes at)) old new None
no-room-ipv6 (Some w) ident mtu at bytes old new are able begin accepted none same = absurd (none-some w (sym none))
no-room-ipv6 None ident mtu at bytes old new are able begin accepted none same =
    elim (either (length old) (v6.fragment_len bytes mtu at (v6.next_place bytes at mtu))) [
      | inl short ↦ (omega (arith, short, fragment-length (unwrap_or ident 0) bytes mtu at are able.lengths begin), same)
      | inr fits ↦ absurd (no (accepted.1 (able, begin, fits)))
    ]
  where
    no : ¬ (false ≡ true)
    no e = cc e

pub by-ipv4 : (ident : Option ℕ) (mtu at : ℕ) (bytes old new : List ℕ) (answer : Option ℕ) → ip_version_of bytes ≡ 4 → Fills (Some (ipv4_at ident mtu bytes at)) old new answer
    → Fills (Some (fragment_at ident mtu bytes at)) old new answer
by-ipv4 ident mtu at bytes old new answer version = subst (λ b. Fills (Some b) old new answer) (sym (four bytes (ipv4_at ident mtu bytes at) (ipv6_at ident mtu bytes at) version))

pub by-ipv6 : (ident : Option ℕ) (mtu at : ℕ) (bytes old new : List ℕ) (answer : Option ℕ) → ip_version_of bytes ≡ 6 → Fills (Some (ipv6_at ident mtu bytes at)) old new answer
    → Fills (Some (fragment_at ident mtu bytes at)) old new answer
by-ipv6 ident mtu at bytes old new answer version = subst (λ b. Fills (Some b) old new answer) (sym (six bytes (ipv4_at ident mtu bytes at) (ipv6_at ident mtu bytes at) version))

-- the frame is at the front of the output, if its header and the fragment are
pub filled : (frame fragment old front rest : List ℕ) (len : ℕ) → 14 ≤ length frame → 14 ≤ length old → front ≡ take 14 frame
    → Fills (Some fragment) (drop 14 old) rest (Some len) → Fills (Some (take 14 frame ++ fragment)) old (front ++ rest) (Some (14 + len))
filled frame fragment old front rest len whole room first (size, fits, made) =
    let left : drop len (drop 14 old) ≡ drop (14 + len) old = drop-drop len 14 old in (
      omega (arith, size, length-append (take 14 frame) fragment, length-take-le 14 frame whole),
      omega (arith, fits, room, length-drop 14 old),
      (λ i. first i ++ (made ∙ ap (λ l. fragment ++ l) left) i) ∙ sym (append_assoc (take 14 frame) fragment (drop (14 + len) old)),
    )

-- the frame does not fit in the output, if the fragment does not fit after the header
pub no-room : (frame fragment old new rest : List ℕ) → 14 ≤ length frame → 14 ≤ length old → Fills (Some fragment) (drop 14 old) rest None → new ≡ old
    → Fills (Some (take 14 frame ++ fragment)) old new None
no-room frame fragment old new rest whole room (short, kept) same =
    (omega (arith, short, room, length-drop 14 old, length-append (take 14 frame) fragment, length-take-le 14 frame whole), same)

-- the length of what was written is returned
pub returned : (bytes old new : List ℕ) (len : ℕ) (answer : ℤ) → length old ≤ max_len → Fills (Some bytes) old new (Some len) → answer ≡ pos len
    → Writes (Some bytes) None old new answer
returned bytes old new len answer small (size, fits, made) is = record {
  fits = λ room least. (is ∙ ap pos size, made ∙ ap (λ n. bytes ++ drop n old) size);
  no_room = λ why. elim why [ inl short ↦ absurd (omega (arith, short, size, fits)) | inr long ↦ absurd (omega (arith, long, small)) ];
}

-- ---- what the call returns

-- the fragment of this number is the one that begins at its place
frame-is : (ident : Option ℕ) (mtu number : ℕ) (frame : List ℕ) (at : Option ℕ) → place_of (drop 14 frame) mtu number ≡ at
    → fragment_frame ident mtu number frame ≡ option_map (frame_at ident mtu frame) at
unfolding fragment_frame
frame-is ident mtu number frame at is = ap (option_map (frame_at ident mtu frame)) is

pub wrote : (why : Option Failure) (given ident : Option ℕ) (mtu number at : ℕ) (frame old new : List ℕ) (answer returned : ℤ) → why ≡ None → given ≡ ident
    → place_of (drop 14 frame) mtu number ≡ Some at → returned ≡ answer → Writes (Some (frame_at given mtu frame at)) None old new answer
    → WritesFragment why (fragment_frame ident mtu number frame) old new returned
wrote why given ident mtu number at frame old new answer returned none same is kept writes =
    rw (none, frame-is ident mtu number frame (Some at) is, kept) (subst (λ i. Writes (Some (frame_at i mtu frame at)) None old new answer) same writes)

pub ended : (why : Option Failure) (ident : Option ℕ) (mtu number : ℕ) (frame old new : List ℕ) (answer : ℤ) → why ≡ None
    → place_of (drop 14 frame) mtu number ≡ None → answer ≡ pos 0 → new ≡ old → WritesFragment why (fragment_frame ident mtu number frame) old new answer
ended why ident mtu number frame old new answer none is nothing same =
    rw (none, frame-is ident mtu number frame None is) (nothing, same)
