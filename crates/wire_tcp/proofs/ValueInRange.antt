-- The values of Rust types are in range.
use Rattle.std.proofs.Common.{◌≢◌, ◌≤◌, ◌<◌, ◌^◌, List, [], ◌∷◌, Option, IfSome, arith}
use Rattle.std.specs.List.{AllByRecursion}
use base.Fml.{Fml}
use denote.Array.{each}
use denote.Builtin.{u32}
use denote.Ref.{NamedLft}
use denote.Shadow.{shadow}
use denote.Struct.Declared.{row}
use denote.Struct.Tuple.{Tuple}
use mir.Val.{Val}
use Rattle.std.specs.contracts.option.Option as option
use Rattle.wire_tcp.specs.TcpRepr.{IsInRange, header_len_of, header_of}
use Rattle.wire_tcp.specs.contracts.tcp.repr.TcpRepr.{the_type}
use Rattle.wire_tcp.specs.declared.tcp.repr.TcpRepr.{TcpRepr}
use Rattle.wire_tcp.proofs.OptionsBack.{Pair}
use Rattle.wire_tcp.proofs.TcpReadsBack.{IsWritable}
use Rattle.std.proofs.lemmas.Grind.{common_steps}
use Rattle.std.proofs.lemmas.Bool.Decides.{nat_tests}

-- a fact about each element of an array
each_says : {X : Type 0} (says : X → List Val → Fml) (P : X → Type 0) → ((x : X) (vals : List Val) → shadow (says x vals) → P x)
    → (xs : List X) (vals : List Val) → shadow (each X says xs vals) → AllByRecursion P xs
each_says says P one [] [] s = tt
each_says says P one [] (u ∷ vals) s = absurd s
each_says says P one (x ∷ xs) [] s = absurd s
each_says says P one (x ∷ xs) (u ∷ vals) s = (one x (u ∷ []) s.0, each_says says P one xs vals s.1)

-- the edges of a range are numbers of 32 bits
range_says : (r : Option Pair) (vals : List Val) → shadow ((option.the_row (Tuple (u32 ∷ u32 ∷ []))).own_val r vals) → IfSome r (λ r. (r.0 < 2 ^ 32) × (r.1 < 2 ^ 32))
range_says r vals s = grind arith

-- the ranges of the numbers in a value
pub value_in_range : (a : NamedLft) (v : TcpRepr) (vals : List Val) → shadow ((row (the_type a)).own_val v vals) → IsInRange (header_of v)
value_in_range a v vals s = grind (arith, common_steps, nat_tests, each_says, range_says)

-- so a value with ports and a header that is not too long can be emitted
pub value_is_writable : (a : NamedLft) (v : TcpRepr) (vals : List Val) → shadow ((row (the_type a)).own_val v vals) → v.src_port ≢ 0 → v.dst_port ≢ 0 → header_len_of (header_of v) ≤ 60
    → IsWritable (header_of v)
value_is_writable a v vals s sender receiver most = record { in_range = value_in_range a v vals s; sender = sender; receiver = receiver; most = most }
