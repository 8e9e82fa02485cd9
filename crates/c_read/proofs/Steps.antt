-- A step to an option that was parsed, or that is malformed.
use Rattle.std.proofs.Common.{ℕ, ℤ, pos, negsuc, ◌≡◌, ◌≢◌, ◌∙◌, ◌<◌, ◌-◌, ◌==◌, false, if◌then◌else◌, List, [], ◌∷◌, Option, length, length-append, slice_index, subst, ap, sym, arith}
use Rattle.std.proofs.lemmas.Bool.Decides.{nat_tests}
use Rattle.std.specs.Option.{option_map_or}
use Rattle.ip_wire.specs.TcpItems.{Item, first_item, text}
use Rattle.ip_wire.specs.TcpOption.{Begins, BeginsNothing}
use Rattle.ip_wire.specs.declared.TcpOption.{TcpOption}
use Rattle.ip_wire.specs.declared.TcpOption.TheVariants.{EndOfList}
use Rattle.wire_tcp_options.proofs.FirstItems.{Leads-first_item, first_item-None}
use Rattle.wire_tcp_options.proofs.Items.{item_read}
use Rattle.wire_tcp_options.proofs.OptionLists.{head-text}
use Rattle.c_structs.specs.declared.types.TcpOptionPlace.{TcpOptionPlace}
use Rattle.c_read.specs.TcpSteps.{place_at, step_to}

-- what is returned and stored for an item that was looked for
abbrev found_at : ℕ → TcpOptionPlace → Option (Item × List ℕ) → ℤ × TcpOptionPlace
found_at at old found = option_map_or (λ found. (pos 1, place_at at found.0.kind (length (text found.0)))) found (negsuc 0, old)

-- bytes that do not begin with the end mark
looked-for : (kind : ℕ) (rest : List ℕ) (at : ℕ) (old : TcpOptionPlace) → kind ≢ 0 → step_to (kind ∷ rest) at old ≡ found_at at old (first_item (kind ∷ rest))
looked-for kind rest at old some =
    let other : (kind == 0) ≡ false = grind (arith, nat_tests, some) in
    ap (λ b. if b then (pos 1, place_at at 0 1) else found_at at old (first_item (kind ∷ rest))) other

no-mark : (o : TcpOption) (kind : ℕ) (rest following : List ℕ) → Begins o (kind ∷ rest) following → kind ≢ 0 → o ≡ EndOfList → ⊥
no-mark o kind rest following h some e =
    let mark : kind ∷ rest ≡ 0 ∷ following = subst (λ o. Begins o (kind ∷ rest) following) e h in some (ap (λ l. slice_index l 0) mark)

pub item_steps : (o : TcpOption) (bytes following : List ℕ) (at : ℕ) (old : TcpOptionPlace) → Begins o bytes following → slice_index bytes 0 ≢ 0 → 0 < length bytes
    → step_to bytes at old ≡ (pos 1, place_at at (slice_index bytes 0) (length bytes - length following))
item_steps o [] following at old h some there = absurd (omega (arith, there))
item_steps o (kind ∷ rest) following at old h some there =
    let (i, is, reading, joined) = item_read o (kind ∷ rest) following h (no-mark o kind rest following h some) in
    let found = Leads-first_item (kind ∷ rest) i following (record { is = is; joined = joined }) in
    let same : i.kind ≡ kind = sym (head-text i kind rest following joined) in
    let len : length (text i) ≡ length (kind ∷ rest) - length following = omega (arith, ap length joined, length-append (text i) following) in
    looked-for kind rest at old some ∙ ap (found_at at old) found
    ∙ ap (λ k. (pos 1, place_at at k (length (text i)))) same ∙ ap (λ n. (pos 1, place_at at kind n)) len

pub nothing_steps : (bytes : List ℕ) (at : ℕ) (old : TcpOptionPlace) → BeginsNothing bytes → slice_index bytes 0 ≢ 0 → 0 < length bytes
    → step_to bytes at old ≡ (negsuc 0, old)
nothing_steps [] at old h some there = absurd (omega (arith, there))
nothing_steps (kind ∷ rest) at old h some there =
    looked-for kind rest at old some ∙ ap (found_at at old) (first_item-None (kind ∷ rest) (λ i following l. h.no_item i following l.is l.joined))
