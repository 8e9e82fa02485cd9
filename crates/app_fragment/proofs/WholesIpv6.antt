-- An IPv6 packet that is put together, at the front of a buffer.
use Rattle.std.proofs.Common.{ℕ, ◌≡◌, ◌≤◌, ◌<◌, ◌+◌, ◌-◌, ◌*◌, ◌/◌, ◌%◌, ◌^◌, inl, inr, Bool, true, false, cond, List, ◌++◌, length, drop, take, refl, sym, ap, subst, ◌∙◌, arith, append_assoc, length-append, length-drop}
use Rattle.std.proofs.lemmas.List.{drop-append-le, get_or-take, get_or_append_left, length-take-le, take-append-le}
use Rattle.ip_wire.specs.Field.{IsApart, IsOutside, bit, field, with_field}
use Rattle.ip_wire.specs.Ipv4.{ip_version_of}
use Rattle.ip_wire.specs.Ipv6.{HasLengths, dst_addr_of, payload_len_of, payload_of, src_addr_of, total_len}
use Rattle.ip_wire.proofs.ByteLists.{AreBytes-take}
use Rattle.ip_wire.proofs.Cells.{cells-drop}
use Rattle.ip_wire.proofs.Following.{drop-with_field}
use Rattle.ip_wire.proofs.Spelled.{AreBytes}
use Rattle.ip_wire.proofs.Written.{AreBytes-with_field, bit_with_field_other, field_with_field_other, field_with_field_same, length_with_field}
use Rattle.app_fragment.proofs.Pieces.{payload-part}
use Rattle.app_fragment.specs.Datagram.{ipv6_whole_header, ipv6_with_ce}

-- ---- one write of a field

-- the header is 40 bytes long, and so is what it becomes
record IsHeader (h : List ℕ) : Type 0 where
  pub long : length h ≡ 40
  pub are : AreBytes h

write : (h : List ℕ) (first width x : ℕ) → IsHeader h → 0 < width → first + width ≤ 320 → IsHeader (with_field h first width x)
write h first width x is some low = record {
  long = length_with_field h first width x some (omega (arith, is.long)) ∙ is.long;
  are = AreBytes-with_field h first width x is.are some (omega (arith, is.long));
}

other : (h : List ℕ) (first width x at size : ℕ) → IsHeader h → 0 < width → 0 < size → first + width ≤ 320 → IsApart first width at size
    → field (with_field h first width x) at size ≡ field h at size
other h first width x at size is some more low apart = field_with_field_other h first width x at size is.are some more (omega (arith, is.long)) apart

same : (h : List ℕ) (first width x : ℕ) → IsHeader h → 0 < width → first + width ≤ 320 → field (with_field h first width x) first width ≡ x % 2 ^ width
same h first width x is some low = field_with_field_same h first width x is.are some (omega (arith, is.long))

bit-other : (h : List ℕ) (first width x i : ℕ) → IsHeader h → 0 < width → first + width ≤ 320 → IsOutside first width i → bit (with_field h first width x) i ≡ bit h i
bit-other h first width x i is some low out = bit_with_field_other h first width x i is.are some (omega (arith, is.long)) out

rest : (h : List ℕ) (first width x n : ℕ) → IsHeader h → 0 < width → first + width ≤ 8 * n → n ≤ 40 → drop n (with_field h first width x) ≡ drop n h
rest h first width x n is some low room = drop-with_field h first width x n some low (omega (arith, is.long))

-- ---- the whole header

-- what the whole header has of the first 40 bytes
record HasIpv6 (ce : Bool) (len next : ℕ) (old new : List ℕ) : Type 0 where
  pub is : IsHeader new
  pub version : ip_version_of new ≡ ip_version_of old
  pub payload : payload_len_of new ≡ len % 65536
  pub next_header : field new 48 8 ≡ next % 256
  pub ecn : field new 10 2 ≡ cond ce 3 (field old 10 2)
  pub bits : (i : ℕ) → IsOutside 32 24 i → IsOutside 10 2 i → bit new i ≡ bit old i
  pub src : drop 8 new ≡ drop 8 old
  pub dst : drop 24 new ≡ drop 24 old

outside-part : (first width a w i : ℕ) → first ≤ a → a + w ≤ first + width → IsOutside first width i → IsOutside a w i
outside-part first width a w i low high (inl before) = inl (omega arith)
outside-part first width a w i low high (inr after) = inr (omega arith)

placed : (h : List ℕ) (len next : ℕ) → IsHeader h → HasIpv6 false len next h (with_field (with_field h 32 16 len) 48 8 next)
placed h len next is =
    let a = write h 32 16 len is (omega arith) (omega arith) in
    let g = with_field h 32 16 len in
    record {
      is = write (with_field h 32 16 len) 48 8 next a (omega arith) (omega arith);
      version = other g 48 8 next 0 4 a (omega arith) (omega arith) (omega arith) (inl (omega arith)) ∙ other h 32 16 len 0 4 is (omega arith) (omega arith) (omega arith) (inl (omega arith));
      payload = other g 48 8 next 32 16 a (omega arith) (omega arith) (omega arith) (inl (omega arith)) ∙ same h 32 16 len is (omega arith) (omega arith);
      next_header = same g 48 8 next a (omega arith) (omega arith);
      ecn = other g 48 8 next 10 2 a (omega arith) (omega arith) (omega arith) (inl (omega arith)) ∙ other h 32 16 len 10 2 is (omega arith) (omega arith) (omega arith) (inl (omega arith));
      bits = λ i out ecn.
          bit-other g 48 8 next i a (omega arith) (omega arith) (outside-part 32 24 48 8 i (omega arith) (omega arith) out)
          ∙ bit-other h 32 16 len i is (omega arith) (omega arith) (outside-part 32 24 32 16 i (omega arith) (omega arith) out);
      src = rest g 48 8 next 8 a (omega arith) (omega arith) (omega arith) ∙ rest h 32 16 len 8 is (omega arith) (omega arith) (omega arith);
      dst = rest g 48 8 next 24 a (omega arith) (omega arith) (omega arith) ∙ rest h 32 16 len 24 is (omega arith) (omega arith) (omega arith);
    }

congested : (h g : List ℕ) (len next : ℕ) → HasIpv6 false len next h g → HasIpv6 true len next h (with_field g 10 2 3)
congested h g len next p = record {
  is = write g 10 2 3 p.is (omega arith) (omega arith);
  version = other g 10 2 3 0 4 p.is (omega arith) (omega arith) (omega arith) (inl (omega arith)) ∙ p.version;
  payload = other g 10 2 3 32 16 p.is (omega arith) (omega arith) (omega arith) (inr (omega arith)) ∙ p.payload;
  next_header = other g 10 2 3 48 8 p.is (omega arith) (omega arith) (omega arith) (inr (omega arith)) ∙ p.next_header;
  ecn = same g 10 2 3 p.is (omega arith) (omega arith);
  bits = λ i out ecn. bit-other g 10 2 3 i p.is (omega arith) (omega arith) ecn ∙ p.bits i out ecn;
  src = rest g 10 2 3 8 p.is (omega arith) (omega arith) (omega arith) ∙ p.src;
  dst = rest g 10 2 3 24 p.is (omega arith) (omega arith) (omega arith) ∙ p.dst;
}

whole : (ce : Bool) (h : List ℕ) (len next : ℕ) → IsHeader h → HasIpv6 ce len next h (ipv6_with_ce ce (with_field (with_field h 32 16 len) 48 8 next))
whole false h len next is = placed h len next is
whole true h len next is = congested h (with_field (with_field h 32 16 len) 48 8 next) len next (placed h len next is)

-- ---- the packet

-- bytes after the header do not change its fields
record HasFront (w out : List ℕ) : Type 0 where
  pub version : ip_version_of out ≡ ip_version_of w
  pub payload : payload_len_of out ≡ payload_len_of w
  pub next_header : field out 48 8 ≡ field w 48 8
  pub ecn : field out 10 2 ≡ field w 10 2

front : (w more : List ℕ) → 40 ≤ length w → HasFront w (w ++ more)
front w more room = rw (cells-drop 40 w room) (record { version = refl; payload = refl; next_header = refl; ecn = refl })

-- an address of the header
address : (w more : List ℕ) (n m : ℕ) → length w ≡ 40 → n + m ≤ 40 → take m (drop n (w ++ more)) ≡ take m (drop n w)
address w more n m long low =
    ap (take m) (drop-append-le n w more (omega (arith, long)))
    ∙ take-append-le m (drop n w) more (omega (arith, long, length-drop n w))

-- what the bytes begin with, by the header of the first fragment, and whether a fragment has CE
pub record IsMade (ce : Bool) (h payload out : List ℕ) : Type 0 where
  pub lengths : HasLengths out
  pub version : ip_version_of out ≡ ip_version_of h
  pub total : total_len out ≡ 40 + length payload
  pub src : src_addr_of out ≡ src_addr_of h
  pub dst : dst_addr_of out ≡ dst_addr_of h
  pub next_header : field out 48 8 ≡ field h 320 8
  pub ecn : field out 10 2 ≡ cond ce 3 (field h 10 2)
  pub bits : (i : ℕ) → i < 320 → IsOutside 32 24 i → IsOutside 10 2 i → bit out i ≡ bit h i
  pub payload_is : payload_of out ≡ payload

-- the first 40 bytes have the fields
record HasFirst (h : List ℕ) : Type 0 where
  pub version : ip_version_of (take 40 h) ≡ ip_version_of h
  pub src : src_addr_of (take 40 h) ≡ src_addr_of h
  pub dst : dst_addr_of (take 40 h) ≡ dst_addr_of h
  pub ecn : field (take 40 h) 10 2 ≡ field h 10 2

has-first : (h : List ℕ) → 40 ≤ length h → HasFirst h
has-first h room = rw (cells-drop 40 h room) (record { version = refl; src = refl; dst = refl; ecn = refl })

pub is_made : (ce : Bool) (h payload after : List ℕ) → AreBytes h → length h ≡ 48 → length payload ≤ 65535
    → IsMade ce h payload ((ipv6_whole_header h (length payload) ce ++ payload) ++ after)
is_made ce h payload after are long fits =
    let w = ipv6_whole_header h (length payload) ce in
    let first : IsHeader (take 40 h) = record { long = length-take-le 40 h (omega (arith, long)); are = AreBytes-take 40 h are } in
    let has = has-first h (omega (arith, long)) in
    let k = whole ce (take 40 h) (length payload) (field h 320 8) first in
    let f = front w (payload ++ after) (omega (arith, k.is.long)) in
    let joined : (w ++ payload) ++ after ≡ w ++ (payload ++ after) = append_assoc w payload after in
    let size : length (w ++ (payload ++ after)) ≡ 40 + (length payload + length after) = length-append w (payload ++ after) ∙ omega (arith, k.is.long, length-append payload after) in
    let counted : payload_len_of (w ++ (payload ++ after)) ≡ length payload = f.payload ∙ k.payload ∙ omega (arith, fits) in
    let count : 40 + length payload - 40 ≡ length payload = omega arith in
    subst (IsMade ce h payload) (sym joined) (record {
      lengths = omega (arith, counted, size);
      version = f.version ∙ k.version ∙ has.version;
      total = ap (λ n. 40 + n) counted;
      src = address w (payload ++ after) 8 16 k.is.long (omega arith) ∙ ap (take 16) k.src ∙ has.src;
      dst = address w (payload ++ after) 24 16 k.is.long (omega arith) ∙ ap (take 16) k.dst ∙ has.dst;
      next_header = f.next_header ∙ k.next_header ∙ omega arith;
      ecn = f.ecn ∙ k.ecn ∙ ap (cond ce 3) has.ecn;
      bits = λ i low out ecn.
          ap (λ b. b / 2 ^ (7 - i % 8) % 2) (get_or_append_left w (payload ++ after) 0 (i / 8) (omega (arith, k.is.long)))
          ∙ k.bits i out ecn
          ∙ ap (λ b. b / 2 ^ (7 - i % 8) % 2) (get_or-take 40 h (i / 8) 0 (omega arith));
      payload_is =
          ap (λ n. take (40 + n - 40) (drop 40 (w ++ (payload ++ after)))) counted
          ∙ ap (λ n. take n (drop 40 (w ++ (payload ++ after)))) count
          ∙ ap (λ l. take (length payload) (drop 40 l)) (sym joined)
          ∙ payload-part w payload after 40 k.is.long;
    })
