-- What a receiver that has a first part of the stream has read.
use Rattle.std.proofs.Common.{◌≡◌, refl, ℕ, zero, suc, ◌≤◌, ◌<◌, List, [], ◌∷◌, ◌++◌, Bool, true, false, length, get_or, map, take, drop, sym, ◌∙◌, ap, arith, take-append-drop}
use Rattle.std.proofs.lemmas.List.{append-nil, map-append}
use Rattle.std.proofs.lemmas.Bool.{false≢true}
use Rattle.tcp_stream.specs.Endpoint.{Item, Syn, Byte, Fin}
use Rattle.tcp_stream.specs.Network.{end_of, stream, bytes_of, is_ended, IsPrefixOf}

-- the bytes are the first of what was written
pub bytes_of_part : (written : List ℕ) (closed : Bool) (n : ℕ) → bytes_of (take n (map Byte written ++ end_of closed)) ≡ take n written
bytes_of_part written closed zero = refl
bytes_of_part [] true (suc zero) = refl
bytes_of_part [] true (suc (suc n)) = refl
bytes_of_part [] false (suc n) = refl
bytes_of_part (b ∷ written) closed (suc n) = ap (λ (l : List ℕ). b ∷ l) (bytes_of_part written closed n)

pub bytes_first : (written : List ℕ) (closed : Bool) (n : ℕ) → IsPrefixOf (bytes_of (take n (stream written closed))) written
bytes_first written closed zero = (written, refl)
bytes_first written closed (suc n) = (drop n written, ap (λ (l : List ℕ). l ++ drop n written) (bytes_of_part written closed n) ∙ take-append-drop n written)

-- the end is after all of them
end_of_part : (written : List ℕ) (closed : Bool) (n : ℕ) → is_ended (take n (map Byte written ++ end_of closed)) ≡ true → (closed ≡ true) × (bytes_of (take n (map Byte written ++ end_of closed)) ≡ written)
end_of_part written closed zero ended = absurd (false≢true ended)
end_of_part [] true (suc zero) ended = (refl, refl)
end_of_part [] true (suc (suc n)) ended = (refl, refl)
end_of_part [] false (suc n) ended = absurd (false≢true ended)
end_of_part (b ∷ written) closed (suc n) ended = let rest = end_of_part written closed n ended in (rest.0, ap (λ (l : List ℕ). b ∷ l) rest.1)

pub end_last : (written : List ℕ) (closed : Bool) (n : ℕ) → is_ended (take n (stream written closed)) ≡ true → (closed ≡ true) × (bytes_of (take n (stream written closed)) ≡ written)
end_last written closed zero ended = absurd (false≢true ended)
end_last written closed (suc n) ended = end_of_part written closed n ended

-- with the end there is all
end_long : (written : List ℕ) (closed : Bool) (n : ℕ) → is_ended (take n (map Byte written ++ end_of closed)) ≡ true → length (map Byte written ++ end_of closed) ≤ n
end_long written closed zero ended = absurd (false≢true ended)
end_long [] true (suc n) ended = omega arith
end_long [] false (suc n) ended = absurd (false≢true ended)
end_long (b ∷ written) closed (suc n) ended = let rest = end_long written closed n ended in omega arith

pub end_all : (written : List ℕ) (closed : Bool) (n : ℕ) → is_ended (take n (stream written closed)) ≡ true → length (stream written closed) ≤ n
end_all written closed zero ended = absurd (false≢true ended)
end_all written closed (suc n) ended = let rest = end_long written closed n ended in omega arith

-- a SYN stands at the start alone
syn_none : (written : List ℕ) (closed : Bool) (n : ℕ) → n < length (map Byte written ++ end_of closed) → Syn ≡ get_or (map Byte written ++ end_of closed) n Syn → ⊥
syn_none [] true zero lt is = cc
syn_none [] true (suc n) lt is = omega arith
syn_none [] false n lt is = omega arith
syn_none (b ∷ written) closed zero lt is = cc
syn_none (b ∷ written) closed (suc n) lt is = syn_none written closed n (omega arith) is

pub syn_first : (written : List ℕ) (closed : Bool) (p : ℕ) → p < length (stream written closed) → Syn ≡ get_or (stream written closed) p Syn → p ≡ 0
syn_first written closed zero lt is = refl
syn_first written closed (suc p) lt is = absurd (syn_none written closed p (omega arith) is)

-- the stream grows at its end
pub record Grows (old new : List Item) : Type 0 where
  pub more : List Item
  pub is : new ≡ old ++ more

pub grows_write : (written bytes : List ℕ) (closed : Bool) → closed ≡ false → Grows (stream written closed) (stream (written ++ bytes) closed)
grows_write written bytes true shut = absurd (false≢true (sym shut))
grows_write written bytes false shut = record {
  more = map Byte bytes;
  is = ap (λ (l : List Item). Syn ∷ (l ++ [])) (map-append Byte written bytes) ∙ ap (λ (l : List Item). Syn ∷ l) (append-nil (map Byte written ++ map Byte bytes) ∙ ap (λ (l : List Item). l ++ map Byte bytes) (sym (append-nil (map Byte written))));
}

pub grows_close : (written : List ℕ) (closed : Bool) → Grows (stream written closed) (stream written true)
grows_close written true = record { more = []; is = sym (append-nil (stream written true)) }
grows_close written false = record { more = Fin ∷ []; is = ap (λ (l : List Item). Syn ∷ (l ++ (Fin ∷ []))) (sym (append-nil (map Byte written))) }
