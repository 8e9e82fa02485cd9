-- A fragment that is at the front of a buffer.
use Rattle.std.proofs.Common.{ℕ, ◌≡◌, ◌≤◌, ◌<◌, ◌+◌, ◌-◌, ◌/◌, Option, List, ◌++◌, length, drop, take, slice_range, refl, sym, ap, subst, ◌∙◌, arith, append_assoc, length-append}
use Rattle.std.proofs.lemmas.Grind.{common_steps}
use Rattle.std.proofs.lemmas.List.{drop_at, take_at, take-append-le}
use Rattle.ip_wire.specs.Diagram.{flag}
use Rattle.ip_wire.specs.Field.{field}
use Rattle.ip_wire.specs.Ipv4.{HasChecksum, HasLengths, fragment_offset, header_len, ip_version_of, more_frags_of, total_len}
use Rattle.ip_wire.specs.WordSum.{sum_of_bytes}
use Rattle.ip_wire.proofs.Cells.{cells-drop}
use Rattle.ip_wire.proofs.Spelled.{AreBytes}
use Rattle.app_fragment.proofs.Headers.{header-has_checksum, header-is_header, header-place}
use Rattle.app_fragment.specs.Ipv4Fragments.{fragment_bytes, fragment_header, fragment_len, has_more, payload_len}

-- bytes after a header do not change its fields
pub field-front : (h rest : List ℕ) → 20 ≤ length h → (ip_version_of (h ++ rest) ≡ ip_version_of h) × (header_len (h ++ rest) ≡ header_len h)
    × (total_len (h ++ rest) ≡ total_len h) × (more_frags_of (h ++ rest) ≡ more_frags_of h) × (field (h ++ rest) 51 13 ≡ field h 51 13)
field-front h rest room = rw (cells-drop 20 h room) (refl, refl, refl, refl, refl)

-- a header with a valid checksum, and bytes after it
pub checksum-front : (h rest : List ℕ) → 20 ≤ length h → length h ≡ header_len h → HasChecksum h → HasChecksum (h ++ rest)
checksum-front h rest room long valid =
    let same : take (header_len (h ++ rest)) (h ++ rest) ≡ take (header_len h) h =
    ap (λ n. take n (h ++ rest)) ((field-front h rest room).1) ∙ take-append-le (header_len h) h rest (omega (arith, long)) in
    ap sum_of_bytes same ∙ valid

pub length-part : (bytes : List ℕ) (a b : ℕ) → b ≤ length bytes → length (slice_range bytes a b) ≡ b - a
length-part bytes a b room = grind (arith, common_steps)

-- what the bytes begin with: a valid packet with this place, header length and payload
pub record IsFragment (ident : Option ℕ) (bytes : List ℕ) (at next : ℕ) (out : List ℕ) : Type 0 where
  pub lengths : HasLengths out
  pub version : ip_version_of out ≡ ip_version_of bytes
  pub checksum : HasChecksum out
  pub header : header_len out ≡ header_len bytes
  pub total : total_len out ≡ fragment_len bytes at next
  pub more : more_frags_of out ≡ flag (has_more bytes next)
  pub first : field out 51 13 ≡ (fragment_offset bytes + at) / 8
  pub payload : slice_range out (header_len out) (total_len out) ≡ slice_range bytes (header_len bytes + at) (header_len bytes + next)

pub payload-part : (h p rest : List ℕ) (n : ℕ) → length h ≡ n → take (length p) (drop n ((h ++ p) ++ rest)) ≡ p
payload-part h p rest n long =
    ap (λ xs. take (length p) (drop n xs)) (append_assoc h p rest) ∙ ap (take (length p)) (drop_at h (p ++ rest) n long) ∙ take_at p rest (length p) refl

pub is_fragment : (ident : Option ℕ) (bytes rest : List ℕ) (at next : ℕ) → AreBytes bytes → HasLengths bytes → at ≤ next → next ≤ payload_len bytes
    → fragment_offset bytes + payload_len bytes ≤ 65535 → IsFragment ident bytes at next (fragment_bytes ident bytes at next ++ rest)
is_fragment ident bytes rest at next are v order within fits =
    let h = fragment_header ident bytes at next in
    let p = slice_range bytes (header_len bytes + at) (header_len bytes + next) in
    let is = header-is_header ident bytes at next are v in
    let placed = header-place ident bytes at next are v in
    let least : 20 ≤ length (fragment_header ident bytes at next) = omega (arith, is.long, v.header) in
    let joined : fragment_bytes ident bytes at next ++ rest ≡ fragment_header ident bytes at next ++ (slice_range bytes (header_len bytes + at) (header_len bytes + next) ++ rest) = append_assoc h p rest in
    let (version, header, total, more, first) = field-front (fragment_header ident bytes at next) (slice_range bytes (header_len bytes + at) (header_len bytes + next) ++ rest) least in
    let part = length-part bytes (header_len bytes + at) (header_len bytes + next) (omega (arith, within, v.within, v.whole)) in
    let small : total_len bytes < 65536 = omega arith in
    let whole : total_len (h ++ (p ++ rest)) ≡ fragment_len bytes at next = omega (arith, total, placed.total, within, v.within, small) in
    let begins : header_len (h ++ (p ++ rest)) ≡ header_len bytes = header ∙ is.header in
    let long = length-append (fragment_header ident bytes at next) (slice_range bytes (header_len bytes + at) (header_len bytes + next) ++ rest) in
    let inner = length-append (slice_range bytes (header_len bytes + at) (header_len bytes + next)) rest in
    subst (IsFragment ident bytes at next) (sym joined) (record {
      lengths = record {
        least = omega (arith, long, least);
        header = omega (arith, begins, v.header);
        within = omega (arith, begins, whole);
        whole = omega (arith, whole, long, inner, part, is.long, order);
      };
      version = version ∙ is.version;
      checksum = checksum-front h (p ++ rest) least (is.long ∙ sym is.header) (header-has_checksum ident bytes at next are v);
      header = begins;
      total = whole;
      more = more ∙ placed.flag_of;
      first = first ∙ placed.first ∙ omega (arith, order, within, fits);
      payload =
          ap (λ n. slice_range (h ++ (p ++ rest)) n (total_len (h ++ (p ++ rest)))) begins
          ∙ ap (λ n. slice_range (h ++ (p ++ rest)) (header_len bytes) n) whole
          ∙ rw (drop_at h (p ++ rest) (header_len bytes) is.long) (take_at p rest _ (part ∙ omega (arith, order)));
    })
