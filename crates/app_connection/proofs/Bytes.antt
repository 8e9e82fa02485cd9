-- Single bytes of a prefix, and its length at the end.
use Rattle.std.proofs.Common.{◌≡◌, refl, sym, ap, subst, ℕ, zero, suc, List, [], ◌∷◌, ◌++◌, Bool, true, false, length, eqb-true}
use Rattle.std.specs.Prelude.{Some, slice_get, ◌==◌, ◌&&◌}
use Rattle.tcp_stream.specs.Network.{IsPrefixOf}
use Rattle.app_connection.specs.declared.connection.Connection.{Connection}
use Rattle.app_connection.specs.Runs.{End, HasAll, Read}

place_kept : (xs ys : List ℕ) (place byte : ℕ) → slice_get xs place ≡ Some byte → slice_get (xs ++ ys) place ≡ Some byte
place_kept [] ys place byte is = absurd (cc)
place_kept (x ∷ xs) ys zero byte is = is
place_kept (x ∷ xs) ys (suc place) byte is = place_kept xs ys place byte is

pub place_read : (a b : End) → Read a b → (place byte : ℕ) → slice_get a.read place ≡ Some byte → slice_get b.wrote place ≡ Some byte
place_read a b r place byte is = subst (λ (l : List ℕ). slice_get l place ≡ Some byte) r.prefix.1 (place_kept a.read r.prefix.0 place byte is)

both_true : (a b : Bool) → (a && b) ≡ true → (a ≡ true) × (b ≡ true)
both_true true b is = (refl, is)
both_true false b is = absurd (cc)

none_left : (n : ℕ) → (n == 0) ≡ true → n ≡ 0
none_left n is = eqb-true n 0 is

pub all_read : (a b : End) (c : Connection) → Read a b → a.connection ≡ c → (c.receiving.has_fin && c.receiving.len == 0) ≡ true → length a.read ≡ length b.wrote
all_read a b c r is ended =
    let both = both_true c.receiving.has_fin (c.receiving.len == 0) ended in
    let all : HasAll c = (both.0, none_left c.receiving.len both.1) in
    ap (λ (l : List ℕ). length l) (r.whole (subst HasAll (sym is) all))
