-- The rows of an endpoint, and the search in them.
use Rattle.std.proofs.Common.{ℕ, ◌≡◌, ◌∙◌, ◌≢◌, ◌+◌, ◌-◌, ◌*◌, ◌/◌, ◌^◌, ◌%◌, ◌<◌, ◌≤◌, inl, inr, List, length, max, min, sym, ap, subst, arith}
use Rattle.std.proofs.Math.Nat.{add-mod-mod, add-mod_right, div-eq_of_lt, div-lt_iff_lt-mul, mod-add-mod, mod-eq_of_lt, mul-le-mul_left, mul-le-mul_right}
use Rattle.std.proofs.lemmas.Bool.{cases_lt}
use Rattle.std.proofs.lemmas.Grind.{div_ceil_times}
use Rattle.std.proofs.lemmas.Nat.{div-add-mod', div-mul-add, mod-mul-add, mod_below}
use Rattle.app_nat.specs.Table.{HasPort, HasRank, IsCandidate, IsFirstAt, IsFirstMapped, IsFree, IsFull, IsUnmapped, MapsTo, all_rows, hash_of, mapping_at, port_after, port_at, port_in_rows, ports, ranks, row_len, row_of, rows_of, start_of, step_of, widest_step}
use Rattle.app_nat.specs.declared.mapping.Mapping.{Mapping}
use Rattle.app_nat.specs.declared.state.Protocol.{Protocol}
use Rattle.app_nat.specs.declared.mapping.Ipv4Endpoint.{Ipv4Endpoint}
use Rattle.app_nat.specs.declared.nat.Nat.{Nat}

-- ---- steps

-- a number below twice the modulus
pub wraps : (a m : ℕ) → m ≤ a → a < m + m → a % m ≡ a - m
wraps a m low high =
    let split : a ≡ a - m + m = omega (arith, low) in
    ap (λ x. x % m) split ∙ add-mod_right (a - m) m ∙ mod-eq_of_lt (omega (arith, low, high))

-- one step more
pub stepped : (start step m rank index : ℕ) → index ≡ (start + rank * step) % m → (index + step) % m ≡ (start + (rank + 1) * step) % m
stepped start step m rank index is =
    let next : start + rank * step + step ≡ start + (rank + 1) * step = omega arith in
    ap (λ x. (x + step) % m) is ∙ mod-add-mod (start + rank * step) m step ∙ ap (λ x. x % m) next

-- ---- a search

-- none of one more number has a property
pub none-yet : (P : ℕ → Type 0) (number : ℕ → ℕ) (rank : ℕ) → ((other : ℕ) → other < rank → ¬ P (number other)) → ¬ P (number rank)
    → (other : ℕ) → other < rank + 1 → ¬ P (number other)
none-yet P number rank none here other low = elim (cases_lt other rank) [
  | inl lower ↦ none other lower
  | inr least ↦ let same : other ≡ rank = omega (arith, low, least) in subst (λ x. ¬ P (number x)) (sym same) here
]

-- ---- rows

-- the port of a rank is in a row
in-row : (nat : Nat) (count start step row column : ℕ) → column < row_len count step
    → port_in_rows nat count start step (row * row_len count step + column) ≡ port_after nat count (start + row) step column
in-row nat count start step row column within =
    let len = row_len count step in
    let q : (row * len + column) / len ≡ row = div-mul-add row len column within in
    let r : (row * len + column) % len ≡ column = mod-mul-add row len column within in
    λ i. port_after nat count (start + q i) step (r i)

-- a row may begin before the first port is reached again
begun : (nat : Nat) (count start step row first column : ℕ) → first ≡ (start + row) % max 1 count
    → port_after nat count first step column ≡ port_after nat count (start + row) step column
begun nat count start step row first column is =
    ap (λ x. nat.first_port + x) (ap (λ x. (x + column * step) % max 1 count) is ∙ mod-add-mod (start + row) (max 1 count) (column * step))

-- where the next row begins
pub next-row : (start row m first : ℕ) → first ≡ (start + row) % m → (first + 1) % m ≡ (start + (row + 1)) % m
next-row start row m first is =
    let next : start + row + 1 ≡ start + (row + 1) = omega arith in
    ap (λ x. (x + 1) % m) is ∙ mod-add-mod (start + row) m 1 ∙ ap (λ x. x % m) next

-- none of the ranks has a property, up to a column of a row
pub none-in-rows : (P : ℕ → Type 0) (nat : Nat) (count start step row first some : ℕ) → first ≡ (start + row) % max 1 count
    → ((rank : ℕ) → rank < row * row_len count step → ¬ P (port_in_rows nat count start step rank)) → some ≤ row_len count step
    → ((column : ℕ) → column < some → ¬ P (port_after nat count first step column))
    → (rank : ℕ) → rank < row * row_len count step + some → ¬ P (port_in_rows nat count start step rank)
none-in-rows P nat count start step row first some is before most here rank low =
    let start_of_row = row * row_len count step in
    elim (cases_lt rank start_of_row) [
      | inl lower ↦ before rank lower
      | inr rest ↦
          let column = rank - start_of_row in
          let within : column < some = omega (arith, low, rest) in
          let split : rank ≡ start_of_row + column = omega (arith, rest) in
          let same = ap (port_in_rows nat count start step) split ∙ in-row nat count start step row column (omega (arith, within, most))
          ∙ sym (begun nat count start step row first column is) in
          subst (λ x. ¬ P x) (sym same) (here column within)
    ]

-- the first port of a row is the first port of all rows if the rows before have none
pub found-in-rows : (P : ℕ → Type 0) (nat : Nat) (count start step row first rows port : ℕ) → row < rows → first ≡ (start + row) % max 1 count
    → ((rank : ℕ) → rank < row * row_len count step → ¬ P (port_in_rows nat count start step rank))
    → IsFirstAt P (port_after nat count first step) (row_len count step) port → IsFirstAt P (port_in_rows nat count start step) (rows * row_len count step) port
found-in-rows P nat count start step row first rows port lower is before f =
    let len = row_len count step in
    let most : (row + 1) * len ≤ rows * len = mul-le-mul_right len (omega (arith, lower)) in
    let next : (row + 1) * len ≡ row * len + len = omega arith in
    record {
      rank = row * len + f.rank;
      within = omega (arith, most, next, f.within);
      is = f.is ∙ begun nat count start step row first f.rank is ∙ sym (in-row nat count start step row f.rank f.within);
      before = none-in-rows P nat count start step row first f.rank is before (omega (arith, f.within)) f.before;
    }

-- ---- steps of an endpoint

-- a step is not 0, and is at most the widest
pub step-fits : (key : List ℕ) (count : ℕ) (inside : Ipv4Endpoint) → (0 < step_of key count inside) × (step_of key count inside ≤ widest_step count)
step-fits key count inside =
    let less = mod_below (hash_of key inside / 2 ^ 32) (widest_step count / 32 + 1) (omega arith) in
    (omega (arith, less), omega arith)

-- each port has a rank, in the row that is its own
pub ranked : (nat : Nat) (len : ℕ) (inside : Ipv4Endpoint) (rows port : ℕ) → HasPort nat len port → row_of nat len inside port < rows → HasRank nat len inside rows port
ranked nat len inside rows port exists within =
    let count = ports nat len in
    let m = max 1 count in
    let start = start_of nat.key count inside in
    let step = step_of nat.key count inside in
    let place = port - nat.first_port in
    let ahead = (place + (count - start)) % m in
    let some = (step-fits nat.key count inside).0 in
    let full : m ≡ count = omega (arith, exists.least, exists.most) in
    let below : place < m = omega (arith, exists.least, exists.most) in
    let begins : start < m = mod_below (hash_of nat.key inside) m (omega arith) in
    let low : ahead < m = mod_below (place + (count - start)) m (omega arith) in
    let round = (div_ceil_times count step some).0 in
    let column : ahead / step < row_len count step = (div-lt_iff_lt-mul some).1 (omega (arith, low, full, round)) in
    let row = ahead % step in
    let most : (row + 1) * row_len count step ≤ rows * row_len count step = mul-le-mul_right (row_len count step) (omega (arith, within)) in
    let next : (row + 1) * row_len count step ≡ row * row_len count step + row_len count step = omega arith in
    let whole = div-add-mod' ahead step in
    let sums : start + row + ahead / step * step ≡ start + ahead = omega (arith, whole) in
    let around : start + (place + (count - start)) ≡ place + m = omega (arith, begins, full) in
    let back : (start + row + ahead / step * step) % m ≡ place =
    ap (λ x. x % m) sums ∙ add-mod-mod start (place + (count - start)) m ∙ ap (λ x. x % m) around ∙ add-mod_right place m ∙ mod-eq_of_lt below in
    let same : port_at nat len inside (row * row_len count step + ahead / step) ≡ nat.first_port + place =
    in-row nat count start step row (ahead / step) column ∙ ap (λ x. nat.first_port + x) back in
    record {
      rank = row * row_len count step + ahead / step;
      within = omega (arith, most, next, column);
      is = omega (arith, same, exists.least);
    }

-- a port is in one of all rows
pub in-all-rows : (nat : Nat) (len : ℕ) (inside : Ipv4Endpoint) (port : ℕ) → row_of nat len inside port < all_rows nat len inside
in-all-rows nat len inside port =
    let count = ports nat len in
    mod_below ((port - nat.first_port + (count - start_of nat.key count inside)) % max 1 count) (step_of nat.key count inside) (step-fits nat.key count inside).0

-- ---- the first candidate

pub first-candidate : {nat : Nat} {mappings : List Mapping} {now : ℕ} {protocol : Protocol} {inside : Ipv4Endpoint} {port : ℕ} → IsFirstMapped nat mappings now protocol inside port
    → IsCandidate nat mappings protocol inside port
first-candidate f = elim f.first [
  | inl own ↦ inl own
  | inr ranked ↦ inr (record { rank = ranked.1.rank; within = ranked.1.within; is = ranked.1.is })
]

-- no rank has a live mapping
pub none_mapped : (nat : Nat) (mappings : List Mapping) (now : ℕ) (protocol : Protocol) (inside : Ipv4Endpoint) → ¬ MapsTo nat mappings now protocol inside.port inside
    → ((rank : ℕ) → rank < ranks nat (length mappings) inside (rows_of nat mappings protocol inside) → ¬ MapsTo nat mappings now protocol (port_at nat (length mappings) inside rank) inside)
    → IsUnmapped nat mappings now protocol inside
none_mapped nat mappings now protocol inside own none port (inl is) = subst (λ p. ¬ MapsTo nat mappings now protocol p inside) (sym is) own
none_mapped nat mappings now protocol inside own none port (inr r) = subst (λ p. ¬ MapsTo nat mappings now protocol p inside) (sym r.is) (none r.rank r.within)

-- no rank is free
pub none_free : (nat : Nat) (mappings : List Mapping) (now : ℕ) (protocol : Protocol) (inside : Ipv4Endpoint) → IsUnmapped nat mappings now protocol inside
    → ((rank : ℕ) → rank < ranks nat (length mappings) inside (all_rows nat (length mappings) inside) → ¬ IsFree nat mappings now protocol (port_at nat (length mappings) inside rank))
    → IsFull nat mappings now protocol inside
none_free nat mappings now protocol inside unmapped none = record {
  unmapped = unmapped;
  taken = λ port exists. elim (cases_lt now (mapping_at nat mappings protocol port).expires) [
    | inl live ↦ live
    | inr expired ↦
        let r = ranked nat (length mappings) inside (all_rows nat (length mappings) inside) port exists (in-all-rows nat (length mappings) inside port) in
        absurd (none r.rank r.within (subst (IsFree nat mappings now protocol) r.is (record { exists = exists; expired = omega (arith, expired) })))
  ];
}

-- ---- different candidates

-- a step of less than the modulus leads to another number
moves : (a d m : ℕ) → 0 < d → d < m → a % m ≢ (a + d) % m
moves a d m some least same =
    let low : a % m < m = mod_below a m (omega (arith, least)) in
    let is : (a % m + d) % m ≡ a % m = mod-add-mod a m d ∙ sym same in
    elim (cases_lt (a % m + d) m) [
      | inl fits ↦ let at = mod-eq_of_lt fits in omega (arith, some, is, at)
      | inr above ↦ let at = wraps (a % m + d) m above (omega (arith, low, least)) in omega (arith, least, above, is, at)
    ]

-- the port of a rank of the first row
first-row : (nat : Nat) (len : ℕ) (inside : Ipv4Endpoint) (rank : ℕ) → rank < row_len (ports nat len) (step_of nat.key (ports nat len) inside)
    → port_at nat len inside rank ≡ port_after nat (ports nat len) (start_of nat.key (ports nat len) inside) (step_of nat.key (ports nat len) inside) rank
first-row nat len inside rank within =
    let count = ports nat len in
    let start = start_of nat.key count inside in
    let none : rank / row_len count (step_of nat.key count inside) ≡ 0 = div-eq_of_lt within in
    let all : rank % row_len count (step_of nat.key count inside) ≡ rank = mod-eq_of_lt within in
    let begins : start + rank / row_len count (step_of nat.key count inside) ≡ start = omega (arith, none) in
    λ i. port_after nat count (begins i) (step_of nat.key count inside) (all i)

-- the ports of the first row differ
pub row_apart : (nat : Nat) (inside : Ipv4Endpoint) (len first second : ℕ) → first < second → second < row_len (ports nat len) (step_of nat.key (ports nat len) inside)
    → port_at nat len inside first ≢ port_at nat len inside second
row_apart nat inside len first second before within same =
    let count = ports nat len in
    let start = start_of nat.key count inside in
    let step = step_of nat.key count inside in
    let d = second - first in
    let some = (step-fits nat.key count inside).0 in
    let least : 1 * step ≤ d * step = mul-le-mul_right step (omega (arith, before)) in
    let fewer : (d + 1) * step ≤ row_len count step * step = mul-le-mul_right step (omega (arith, within)) in
    let next : (d + 1) * step ≡ d * step + step = omega arith in
    let round = (div_ceil_times count step some).1 in
    let split : second ≡ first + d = omega (arith, before) in
    let further : start + second * step ≡ start + first * step + d * step = ap (λ x. start + x * step) split ∙ omega arith in
    let equal : (start + first * step) % max 1 count ≡ (start + second * step) % max 1 count =
    let here = first-row nat len inside first (omega (arith, before, within)) in let there = first-row nat len inside second within in omega (arith, same, here, there) in
    moves (start + first * step) (d * step) (max 1 count) (omega (arith, least, some)) (omega (arith, fewer, next, round)) (equal ∙ ap (λ x. x % max 1 count) further)

-- the first row has 63 ports, or all
pub row_long : (nat : Nat) (inside : Ipv4Endpoint) (len : ℕ) → min 63 (ports nat len) ≤ row_len (ports nat len) (step_of nat.key (ports nat len) inside)
row_long nat inside len =
    let count = ports nat len in
    let step = step_of nat.key count inside in
    let fits = step-fits nat.key count inside in
    let row = row_len count step in
    let round = (div_ceil_times count step fits.0).0 in
    let most : row * step ≤ row * widest_step count = mul-le-mul_left row fits.1 in
    elim (cases_lt row (min 63 count)) [
      | inr enough ↦ omega (arith, enough)
      | inl short ↦
          let fewer : row * widest_step count ≤ 62 * widest_step count = mul-le-mul_right (widest_step count) (omega (arith, short)) in
          elim (cases_lt count 63) [
            | inl small ↦ let one : widest_step count ≡ 1 = omega (arith, small) in let is : row * widest_step count ≡ row = ap (λ x. row * x) one ∙ omega arith in absurd (omega (arith, short, round, most, is))
            | inr large ↦ let is : widest_step count ≡ count / 63 = omega (arith, large) in absurd (omega (arith, is, round, most, fewer, large))
          ]
    ]
