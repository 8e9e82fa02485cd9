-- A segment with another maximum segment size in its options.
use Rattle.std.proofs.Common.{ℕ, ◌≡◌, ◌≤◌, ◌<◌, ◌+◌, ◌-◌, ◌%◌, Bool, false, List, [], ◌∷◌, ◌++◌, length, sum, take, drop, Option, Some, None, refl, sym, subst, ap, ◌∙◌, append_assoc, length-append, arith}
use Rattle.std.specs.Option.{option_and_then, option_map, option_map_or}
use Rattle.std.proofs.lemmas.Option.{option_and_then_some}
use Rattle.std.proofs.lemmas.List.{drop-append-le, drop-drop, drop-take, length-drop, length-take-le, take-append-drop, take-append-le, take-take}
use Rattle.std.proofs.lemmas.Slice.{drop-append-drop}
use Rattle.byteorder.specs.Endian.{big_bytes, big_number}
use Rattle.wire_checksum.proofs.Parts.{sum-words-with_range, take-with_range}
use Rattle.wire_checksum.specs.WordSum.{words}
use Rattle.wire_addr.specs.IpAddress.{address_bytes}
use Rattle.wire_addr.specs.declared.ip_address.IpAddress.{IpAddress}
use Rattle.net_base.specs.Field.{field, with_range}
use Rattle.net_base.proofs.ByteLists.{AreBytes-append, AreBytes-bytes_high_first, AreBytes-drop, AreBytes-take}
use Rattle.net_base.proofs.Cells.{cells-all}
use Rattle.net_base.proofs.Spelled.{AreBytes}
use Rattle.wire_tcp.proofs.OptionItems.{items_in-list}
use Rattle.wire_tcp.proofs.Sums.{valid-updated}
use Rattle.wire_tcp.proofs.TcpChanged.{control_kept, receiver_read, reads_checksum, sender_read}
use Rattle.wire_tcp.proofs.TcpComputed.{Reads-is, reads-with}
use Rattle.wire_tcp.specs.Tcp.{Verifies, header_len, options_of, payload_of}
use Rattle.wire_tcp.specs.TcpRepr.{Reads, TcpHeader, header_with, items_in}
use Rattle.wire_tcp.specs.TcpSegmentSize.{max_seg_size_at, max_seg_size_of, with_max_seg_size, with_size_at}
use Rattle.wire_tcp_options.proofs.Places.{no_size, resized, sized_at}
use Rattle.wire_tcp_options.specs.TcpItems.{IsOptionList, Item, segment_size_of}
use Rattle.wire_tcp_options.specs.TcpPlace.{segment_size_at}
use Rattle.wire_tcp_options.specs.TcpSummary.{HasNoList}
use Rattle.wire_tcp_options.specs.declared.tcp.control.TcpControl.{TcpControl}
use Rattle.net_base.proofs.Readings.{option_map-Some}
use Rattle.std.proofs.lemmas.Grind.{common_steps}
use Rattle.std.proofs.lemmas.Bool.Decides.{nat_tests}

-- ---- other bytes in the options

options_long : (bytes : List ℕ) → 20 ≤ header_len bytes → header_len bytes ≤ length bytes → length (options_of bytes) ≡ header_len bytes - 20
options_long bytes begins ends = length-take-le (header_len bytes - 20) (drop 20 bytes) (omega (arith, length-drop 20 bytes, begins, ends))

-- what the first twenty bytes tell is the same
record SameFixed (old new : List ℕ) : Type 0 where
  header : header_len new ≡ header_len old
  flags : field new 108 4 ≡ field old 108 4
  values : (asked : TcpControl) (items : List Item) → header_with new asked items ≡ header_with old asked items

same_fixed : (front old new : List ℕ) → length front ≡ 20 → SameFixed (front ++ old) (front ++ new)
same_fixed front old new long = rw (cells-all 20 front long) (record { header = refl; flags = refl; values = λ asked items. refl })

-- the segment with other bytes in the options
record Replaced (bytes new options : List ℕ) : Type 0 where
  same : SameFixed bytes new
  long : length new ≡ length bytes
  options_are : options_of new ≡ options
  payload_is : payload_of new ≡ payload_of bytes
  is : new ≡ with_range bytes 20 (header_len bytes) options

-- the options after two of their bytes were replaced
replaced : (bytes part : List ℕ) (i : ℕ) → 20 ≤ header_len bytes → header_len bytes ≤ length bytes → length part ≡ 2 → i + 2 ≤ length (options_of bytes)
    → Replaced bytes (with_range bytes (20 + i) (20 + i + 2) part) (with_range (options_of bytes) i (i + 2) part)
replaced bytes part i begins ends two inside =
    let header = header_len bytes in
    let new = with_range bytes (20 + i) (20 + i + 2) part in
    let options = with_range (options_of bytes) i (i + 2) part in
    let size = options_long bytes begins ends in
    let front : length (take (20 + i) bytes) ≡ 20 + i = length-take-le (20 + i) bytes (omega (arith, inside, size, begins, ends)) in
    let both : length (take (20 + i) bytes ++ part) ≡ 20 + i + 2 = length-append (take (20 + i) bytes) part ∙ omega (arith, front, two) in
    let long : length new ≡ length bytes = length-append (take (20 + i) bytes ++ part) (drop (20 + i + 2) bytes) ∙ omega (arith, both, length-drop (20 + i + 2) bytes, inside, size, begins, ends) in
    let fixed : take 20 new ≡ take 20 bytes =
    take-append-le 20 (take (20 + i) bytes ++ part) (drop (20 + i + 2) bytes) (omega (arith, both)) ∙ take-append-le 20 (take (20 + i) bytes) part (omega (arith, front)) ∙ take-take 20 (20 + i) bytes (omega arith) in
    let same : SameFixed bytes new =
    subst (λ (l : List ℕ). SameFixed l new) (take-append-drop 20 bytes) (subst (SameFixed (take 20 bytes ++ drop 20 bytes)) (ap (λ (f : List ℕ). f ++ drop 20 new) (sym fixed) ∙ take-append-drop 20 new)
    (same_fixed (take 20 bytes) (drop 20 bytes) (drop 20 new) (length-take-le 20 bytes (omega (arith, begins, ends))))) in
    let following : drop 20 new ≡ with_range (drop 20 bytes) i (i + 2) part =
    drop-append-le 20 (take (20 + i) bytes ++ part) (drop (20 + i + 2) bytes) (omega (arith, both))
    ∙ ap (λ (l : List ℕ). l ++ drop (20 + i + 2) bytes) (drop-append-le 20 (take (20 + i) bytes) part (omega (arith, front)) ∙ ap (λ (l : List ℕ). l ++ part) (drop-take 20 i bytes))
    ∙ ap (λ (l : List ℕ). take i (drop 20 bytes) ++ part ++ l) (ap (λ (n : ℕ). drop n bytes) (omega arith) ∙ sym (drop-drop (i + 2) 20 bytes)) in
    let options_are : options_of new ≡ options =
    ap (λ (n : ℕ). take (n - 20) (drop 20 new)) same.header ∙ ap (take (header - 20)) following
    ∙ take-with_range (drop 20 bytes) part i (i + 2) (header - 20) (omega (arith, two)) (omega (arith, inside, size)) (omega (arith, inside, size, length-drop 20 bytes, begins, ends)) in
    let payload_is : payload_of new ≡ payload_of bytes =
    ap (λ (n : ℕ). drop n new) same.header ∙ drop-append-drop (20 + i + 2) bytes (take (20 + i) bytes ++ part) header (omega (arith, inside, size, begins)) both in
    let after : drop (header - 20) (drop 20 new) ≡ payload_of bytes =
    drop-drop (header - 20) 20 new ∙ ap (λ (n : ℕ). drop n new) (omega (arith, begins, same.header)) ∙ payload_is in
    record {
      same = same;
      long = long;
      options_are = options_are;
      payload_is = payload_is;
      is = sym (take-append-drop 20 new)
          ∙ ap (λ (f : List ℕ). f ++ drop 20 new) fixed
          ∙ ap (λ (l : List ℕ). take 20 bytes ++ l) (sym (take-append-drop (header - 20) (drop 20 new)))
          ∙ ap (λ (l : List ℕ). take 20 bytes ++ (take (header - 20) (drop 20 new) ++ l)) after
          ∙ ap (λ (l : List ℕ). take 20 bytes ++ (l ++ payload_of bytes)) (ap (λ (n : ℕ). take (n - 20) (drop 20 new)) (sym same.header) ∙ options_are)
          ∙ sym (append_assoc (take 20 bytes) options (payload_of bytes));
    }

-- ---- the checksum

AreBytes-with_two : (bytes : List ℕ) (at n : ℕ) → AreBytes bytes → AreBytes (with_range bytes at (at + 2) (big_bytes 2 n))
AreBytes-with_two bytes at n are =
    AreBytes-append (take at bytes ++ big_bytes 2 n) (drop (at + 2) bytes) (AreBytes-append (take at bytes) (big_bytes 2 n) (AreBytes-take at bytes are) (AreBytes-bytes_high_first 2 n)) (AreBytes-drop (at + 2) bytes are)

-- a valid checksum stays valid
valid-at : (src dst : IpAddress) (bytes : List ℕ) (i n : ℕ) → AreBytes bytes → length (address_bytes src) % 2 ≡ 0 → length (address_bytes dst) % 2 ≡ 0
    → 20 ≤ header_len bytes → header_len bytes ≤ length bytes → i + 2 ≤ length (options_of bytes)
    → Verifies src dst bytes → Verifies src dst (with_size_at bytes n (20 + i))
valid-at src dst bytes i n are s d begins ends inside valid =
    let new = with_range bytes (20 + i) (20 + i + 2) (big_bytes 2 n) in
    let r = replaced bytes (big_bytes 2 n) i begins ends refl inside in
    let size : length (options_of new) ≡ header_len bytes - 20 = options_long new (omega (arith, r.same.header, begins)) (omega (arith, r.same.header, r.long, ends)) ∙ omega (arith, r.same.header) in
    let total = sum-words-with_range bytes (options_of new) 20 (header_len bytes) refl (omega (arith, size, begins)) (omega (arith, size, begins)) ends in
    let sums = ap (λ (l : List ℕ). sum (words l)) (r.is ∙ ap (with_range bytes 20 (header_len bytes)) (sym r.options_are)) in
    valid-updated src dst src dst bytes new (sum (words (options_of bytes))) (sum (words (options_of new))) (AreBytes-with_two bytes (20 + i) n are) s d s d (omega (arith, r.long, begins, ends)) r.long
    (omega (arith, total, sums)) valid

-- ---- the value

reads-at : (src dst : IpAddress) (bytes : List ℕ) (i n : ℕ) (verified : Bool) (v : TcpHeader) (payload : List ℕ) → AreBytes bytes → n < 65536 → length (address_bytes src) % 2 ≡ 0 → length (address_bytes dst) % 2 ≡ 0
    → (r : Reads bytes src dst verified v payload) → segment_size_at r.options.items ≡ Some i
    → Reads (with_size_at bytes n (20 + i)) src dst verified (record v { max_seg_size = Some n }) payload
reads-at src dst bytes i n verified v payload are fits s d r found =
    let new = with_range bytes (20 + i) (20 + i + 2) (big_bytes 2 n) in
    let begins = r.lengths.header in
    let ends = r.lengths.whole in
    let inside = (sized_at (options_of bytes) r.options.items r.options.tail i r.options.list found).0 in
    let p = replaced bytes (big_bytes 2 n) i begins ends refl inside in
    let o = resized (options_of bytes) r.options.items r.options.tail i n fits r.options.list found in
    let options : header_with bytes v.control o.others ≡ record (header_with bytes v.control r.options.items) { max_seg_size = Some n } = rw (o.size, o.scale, o.permitted, o.ranges, o.stamps) refl in
    let is : header_with new v.control o.others ≡ record v { max_seg_size = Some n } =
    p.same.values v.control o.others ∙ options ∙ ap (λ (h : TcpHeader). record h { max_seg_size = Some n }) (Reads-is bytes src dst verified v payload r) in
    let unsummed = reads-with new src dst false v.control o.others r.options.tail (record {
      lengths = record {
        least = omega (arith, p.long, r.lengths.least);
        header = omega (arith, p.same.header, begins);
        whole = omega (arith, p.long, p.same.header, ends);
      };
      sender = λ none. sender_read bytes src dst verified v payload r (ap (λ (h : TcpHeader). h.src_port) (sym is) ∙ none);
      receiver = λ none. receiver_read bytes src dst verified v payload r (ap (λ (h : TcpHeader). h.dst_port) (sym is) ∙ none);
      checksum = λ no. cc;
    }) (control_kept bytes new p.same.flags v.control r.control) (subst (λ (l : List ℕ). IsOptionList l o.others r.options.tail) (sym p.options_are) o.list) in
    reads_checksum new _ src dst src dst false verified (record v { max_seg_size = Some n }) payload
    (subst (λ (h : TcpHeader). Reads new src dst false h payload) is (subst (Reads new src dst false (header_with new v.control o.others)) (p.payload_is ∙ sym r.body) unsummed))
    (λ on. valid-at src dst bytes i n are s d begins ends inside (r.checksum on))

-- ---- the size that counts

-- the index that the walk finds
pub place_found : (options : List ℕ) (at : Option ℕ) → ((items : List Item) (tail : List ℕ) → IsOptionList options items tail → at ≡ segment_size_at items) → (HasNoList options → at ≡ None)
    → option_map (λ n. 20 + n) at ≡ option_map (λ n. 20 + n) (option_and_then segment_size_at (items_in options))
place_found options at listed malformed = by (items_in options) refl
  where
    by : (o : Option (List Item)) → items_in options ≡ o → option_map (λ n. 20 + n) at ≡ option_map (λ n. 20 + n) (option_and_then segment_size_at o)
    by (Some items) e = let (tail, list) = (items_in-list options items).0 e in ap (option_map (λ n. 20 + n)) (listed items tail list)
    by None e = ap (option_map (λ n. 20 + n)) (malformed (λ items tail list. let some = sym e ∙ (items_in-list options items).1 (tail, list) in absurd (cc)))

-- the items whose size is at an index
record Found (bytes : List ℕ) (at : ℕ) : Type 0 where
  items : List Item
  i : ℕ
  is : at ≡ 20 + i
  computed : items_in (options_of bytes) ≡ Some items
  inside : i + 2 ≤ length (options_of bytes)
  size : segment_size_of items ≡ Some (big_number 2 (drop i (options_of bytes)))

found : (bytes : List ℕ) (at : ℕ) → max_seg_size_at bytes ≡ Some at → Found bytes at
found bytes at e =
    let (i, placed, is) = option_map-Some (λ n. 20 + n) (option_and_then segment_size_at (items_in (options_of bytes))) at e in
    option_and_then_some segment_size_at (items_in (options_of bytes)) i placed (λ items computed here.
    let (tail, list) = (items_in-list (options_of bytes) items).0 computed in
    let (inside, size) = sized_at (options_of bytes) items tail i list here in
    record { items = items; i = i; is = sym is; computed = computed; inside = inside; size = size })

two_in_front : (l rest : List ℕ) → 2 ≤ length l → big_number 2 (l ++ rest) ≡ big_number 2 l
two_in_front [] rest some = absurd (omega arith)
two_in_front (a ∷ []) rest some = absurd (omega arith)
two_in_front (a ∷ b ∷ l) rest some = refl

-- the two bytes at the index are the size
pub size_found : (bytes : List ℕ) (at : ℕ) → 20 ≤ header_len bytes → header_len bytes ≤ length bytes → max_seg_size_at bytes ≡ Some at → Some (big_number 2 (drop at bytes)) ≡ max_seg_size_of bytes
size_found bytes at begins ends e =
    let f = found bytes at e in
    let options = options_of bytes in
    let following : drop at bytes ≡ drop f.i options ++ payload_of bytes =
    ap (λ (n : ℕ). drop n bytes) f.is ∙ sym (drop-drop f.i 20 bytes) ∙ ap (drop f.i) (sym (take-append-drop (header_len bytes - 20) (drop 20 bytes)))
    ∙ drop-append-le f.i options (drop (header_len bytes - 20) (drop 20 bytes)) (omega (arith, f.inside))
    ∙ ap (λ (l : List ℕ). drop f.i options ++ l) (drop-drop (header_len bytes - 20) 20 bytes ∙ ap (λ (n : ℕ). drop n bytes) (omega (arith, begins))) in
    ap (λ (l : List ℕ). Some (big_number 2 l)) following
    ∙ ap Some (two_in_front (drop f.i options) (payload_of bytes) (omega (arith, length-drop f.i options, f.inside)))
    ∙ sym f.size ∙ ap (option_and_then segment_size_of) (sym f.computed)

-- the bytes with the size there
pub written_found : (bytes : List ℕ) (at n : ℕ) → max_seg_size_at bytes ≡ Some at → with_size_at bytes n at ≡ with_max_seg_size bytes n
written_found bytes at n e = ap (λ (o : Option ℕ). option_map_or (with_size_at bytes n) o bytes) (sym e)

-- without an index there is no size, and the bytes stay
none_at : (o : Option (List Item)) → option_map (λ n. 20 + n) (option_and_then segment_size_at o) ≡ None → None ≡ option_and_then segment_size_of o
none_at o e = grind (arith, common_steps, nat_tests, no_size)

pub none_found : (bytes : List ℕ) (n : ℕ) → max_seg_size_at bytes ≡ None → (None ≡ max_seg_size_of bytes) × (bytes ≡ with_max_seg_size bytes n)
none_found bytes n e = (none_at (items_in (options_of bytes)) e, ap (λ (o : Option ℕ). option_map_or (with_size_at bytes n) o bytes) (sym e))

-- a valid checksum stays valid
pub valid-resized : (src dst : IpAddress) (bytes : List ℕ) (n : ℕ) → AreBytes bytes → length (address_bytes src) % 2 ≡ 0 → length (address_bytes dst) % 2 ≡ 0 → 20 ≤ header_len bytes → header_len bytes ≤ length bytes
    → Verifies src dst bytes → Verifies src dst (with_max_seg_size bytes n)
valid-resized src dst bytes n are s d begins ends valid = by (max_seg_size_at bytes) refl
  where
    by : (o : Option ℕ) → max_seg_size_at bytes ≡ o → Verifies src dst (with_max_seg_size bytes n)
    by (Some at) e =
        let f = found bytes at e in
        subst (Verifies src dst) (ap (with_size_at bytes n) (sym f.is) ∙ written_found bytes at n e) (valid-at src dst bytes f.i n are s d begins ends f.inside valid)
    by None e = subst (Verifies src dst) (none_found bytes n e).1 valid

-- only the size of the value changes
pub reads-resized : (src dst : IpAddress) (bytes : List ℕ) (n : ℕ) (verified : Bool) (v : TcpHeader) (payload : List ℕ) → AreBytes bytes → n < 65536 → length (address_bytes src) % 2 ≡ 0 → length (address_bytes dst) % 2 ≡ 0
    → Reads bytes src dst verified v payload
    → (max_seg_size_of bytes ≡ v.max_seg_size) × Reads (with_max_seg_size bytes n) src dst verified (record v { max_seg_size = option_map (λ size. n) v.max_seg_size }) payload
reads-resized src dst bytes n verified v payload are fits s d r = (size, by (segment_size_at r.options.items) refl)
  where
    computed : items_in (options_of bytes) ≡ Some r.options.items
    computed = (items_in-list (options_of bytes) r.options.items).1 (r.options.tail, r.options.list)

    size : max_seg_size_of bytes ≡ v.max_seg_size
    size = ap (option_and_then segment_size_of) computed ∙ sym r.options.max_seg_size

    with_size : Option ℕ → TcpHeader
    with_size m = record v { max_seg_size = m }

    by : (o : Option ℕ) → segment_size_at r.options.items ≡ o → Reads (with_max_seg_size bytes n) src dst verified (record v { max_seg_size = option_map (λ size. n) v.max_seg_size }) payload
    by (Some i) e =
        let place = ap (λ (o : Option (List Item)). option_map (λ n. 20 + n) (option_and_then segment_size_at o)) computed ∙ ap (option_map (λ n. 20 + n)) e in
        let some : v.max_seg_size ≡ Some (big_number 2 (drop i (options_of bytes))) = r.options.max_seg_size ∙ (sized_at (options_of bytes) r.options.items r.options.tail i r.options.list e).1 in
        subst (λ (m : Option ℕ). Reads (with_max_seg_size bytes n) src dst verified (record v { max_seg_size = m }) payload) (sym (ap (option_map (λ size. n)) some))
        (subst (λ (l : List ℕ). Reads l src dst verified (record v { max_seg_size = Some n }) payload) (written_found bytes (20 + i) n place) (reads-at src dst bytes i n verified v payload are fits s d r e))
    by None e =
        let place = ap (λ (o : Option (List Item)). option_map (λ n. 20 + n) (option_and_then segment_size_at o)) computed ∙ ap (option_map (λ n. 20 + n)) e in
        let none : v.max_seg_size ≡ None = r.options.max_seg_size ∙ ap (option_map (λ i. big_number 2 i.content)) (no_size r.options.items e) in
        subst (λ (m : Option ℕ). Reads (with_max_seg_size bytes n) src dst verified (record v { max_seg_size = m }) payload) (none ∙ sym (ap (option_map (λ size. n)) none))
        (subst (λ (l : List ℕ). Reads l src dst verified v payload) (none_found bytes n place).1 r)
