-- The options of a TCP header one by one, each by its place.
-- Pinned by: `worked/options`
use Rattle.std.specs.Prelude.{ℕ, ℤ, pos, negsuc, ◌+◌, ◌-◌, ◌&&◌, ◌==◌, not, if◌then◌else◌, Bool, List, [], ◌∷◌, drop, length}
use Rattle.std.specs.Option.{option_map_or}
use Rattle.ip_wire.specs.Tcp.{has_lengths, options_of}
use Rattle.ip_wire.specs.TcpItems.{first_item, text}
use Rattle.c_structs.specs.declared.types.TcpOptionPlace.{TcpOptionPlace}

-- the place of an option that begins `at` bytes after the first 20 of the header
abbrev pub place_at : ℕ → ℕ → ℕ → TcpOptionPlace
place_at at kind len = record { offset = 20 + at; kind = kind; len = len }

-- where the next option begins; a place of zeros is before the first option
abbrev pub next_at : TcpOptionPlace → ℕ
next_at o = if o.offset == 0 then 0 else o.offset + o.len - 20

-- whether the option is the end mark, which nothing follows
abbrev pub is_end_mark : TcpOptionPlace → Bool
is_end_mark o = not (o.offset == 0) && (o.kind == 0)

-- what a step to the next option returns and stores, if these bytes of the options are left
abbrev pub step_to : List ℕ → ℕ → TcpOptionPlace → ℤ × TcpOptionPlace
step_to [] at old = (pos 0, old)
step_to (kind ∷ rest) at old =
    if kind == 0 then (pos 1, place_at at 0 1)
    else option_map_or (λ found. (pos 1, place_at at found.0.kind (length (text found.0)))) (first_item (kind ∷ rest)) (negsuc 0, old)

-- what a step to the next option of a header returns and stores
abbrev pub step : List ℕ → TcpOptionPlace → ℤ × TcpOptionPlace
step header old =
    if not (has_lengths header) then (negsuc 0, old)
    else if is_end_mark old then (pos 0, old)
    else step_to (drop (next_at old) (options_of header)) (next_at old) old
