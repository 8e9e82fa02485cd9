-- One part of a list replaced by another.
use Rattle.std.proofs.Common.{ℕ, ◌≡◌, ◌≤◌, ◌+◌, ◌-◌, List, ◌++◌, length, drop, take, slice_range, sym, ap, ◌∙◌, append_assoc, arith, length-append, length-drop}
use Rattle.std.proofs.Math.Seq.{drop-append-add, take-append-add}
use Rattle.std.proofs.lemmas.List.{drop-drop, drop_at, length-take-le, take-append-drop, take_at}
use Rattle.ip_wire.specs.Field.{with_range}

-- ---- the elements from h up to n replaced by a part

-- replacing a part by one of the same length keeps the length
pub range-len : (bytes part : List ℕ) (h n : ℕ) → h ≤ n → n ≤ length bytes → length part ≡ n - h → length (with_range bytes h n part) ≡ length bytes
range-len bytes part h n order room e =
    let front : length (take h bytes) ≡ h = length-take-le h bytes (omega arith) in
    simp (length-append, front, length-drop) (omega arith)

-- the elements before it
pub range-front : (bytes part : List ℕ) (h n : ℕ) → h ≤ length bytes → take h (with_range bytes h n part) ≡ take h bytes
range-front bytes part h n room =
    ap (take h) (append_assoc (take h bytes) part (drop n bytes)) ∙ take_at (take h bytes) (part ++ drop n bytes) h (length-take-le h bytes room)

-- from it on
range-from : (bytes part : List ℕ) (h n : ℕ) → h ≤ length bytes → drop h (with_range bytes h n part) ≡ part ++ drop n bytes
range-from bytes part h n room =
    ap (drop h) (append_assoc (take h bytes) part (drop n bytes)) ∙ drop_at (take h bytes) (part ++ drop n bytes) h (length-take-le h bytes room)

-- the elements after it
pub range-following : (bytes part : List ℕ) (h n : ℕ) → h ≤ n → n ≤ length bytes → length part ≡ n - h → drop n (with_range bytes h n part) ≡ drop n bytes
range-following bytes part h n order room e =
    let front : length (take h bytes) ≡ h = length-take-le h bytes (omega arith) in
    let whole : length (take h bytes ++ part) ≡ n = length-append (take h bytes) part ∙ omega (arith, front, e, order) in
    drop_at (take h bytes ++ part) (drop n bytes) n whole

-- the part is read back
pub range-part : (bytes part : List ℕ) (h n : ℕ) → h ≤ length bytes → length part ≡ n - h → slice_range (with_range bytes h n part) h n ≡ part
range-part bytes part h n room e = ap (take (n - h)) (range-from bytes part h n room) ∙ take_at part (drop n bytes) (n - h) e

-- writing back the old part gives the old list
pub range-same : (bytes : List ℕ) (h n : ℕ) → h ≤ n → with_range bytes h n (slice_range bytes h n) ≡ bytes
range-same bytes h n order =
    let e : h + (n - h) ≡ n = omega arith in
    let after_header : drop n bytes ≡ drop (n - h) (drop h bytes) = ap (λ (k : ℕ). drop k bytes) (sym e) ∙ sym (drop-drop (n - h) h bytes) in
    append_assoc (take h bytes) (slice_range bytes h n) (drop n bytes)
    ∙ ap (λ (l : List ℕ). take h bytes ++ (slice_range bytes h n ++ l)) after_header
    ∙ ap (λ (l : List ℕ). take h bytes ++ l) (take-append-drop (n - h) (drop h bytes))
    ∙ take-append-drop h bytes

-- a replaced part of a part
pub range-twice : (bytes part other : List ℕ) (h n : ℕ) → h ≤ n → n ≤ length bytes → length part ≡ n - h
    → with_range (with_range bytes h n part) h n other ≡ with_range bytes h n other
range-twice bytes part other h n order room e =
    (λ i. (range-front bytes part h n (omega arith) i ++ other) ++ range-following bytes part h n order room e i)

-- ---- after a front of twenty bytes

take-past : (front rest : List ℕ) (h : ℕ) → length front ≡ 20 → 20 ≤ h → take h (front ++ rest) ≡ front ++ take (h - 20) rest
take-past front rest h e least =
    let is : h ≡ length front + (h - 20) = omega arith in
    ap (λ (k : ℕ). take k (front ++ rest)) is ∙ take-append-add front rest (h - 20)

pub drop-past : (front rest : List ℕ) (h : ℕ) → length front ≡ 20 → 20 ≤ h → drop h (front ++ rest) ≡ drop (h - 20) rest
drop-past front rest h e least =
    let is : h ≡ length front + (h - 20) = omega arith in
    ap (λ (k : ℕ). drop k (front ++ rest)) is ∙ drop-append-add front rest (h - 20)

-- a part after a front of twenty bytes is a part of the rest
pub range-past : (front rest part : List ℕ) (h n : ℕ) → length front ≡ 20 → 20 ≤ h → 20 ≤ n
    → with_range (front ++ rest) h n part ≡ front ++ with_range rest (h - 20) (n - 20) part
range-past front rest part h n e least most =
    (λ i. (take-past front rest h e least i ++ part) ++ drop-past front rest n e most i)
    ∙ ap (λ (l : List ℕ). l ++ drop (n - 20) rest) (append_assoc front (take (h - 20) rest) part)
    ∙ append_assoc front (take (h - 20) rest ++ part) (drop (n - 20) rest)

-- ---- a list that is split twice

-- a replaced part, as the bytes before it, the part and the bytes after it
pub range-split : (bytes part : List ℕ) (h n : ℕ) → h ≤ n → take h bytes ++ (part ++ drop (n - h) (drop h bytes)) ≡ with_range bytes h n part
range-split bytes part h n order =
    let e : h + (n - h) ≡ n = omega arith in
    ap (λ (l : List ℕ). take h bytes ++ (part ++ l)) (drop-drop (n - h) h bytes ∙ ap (λ (k : ℕ). drop k bytes) e)
    ∙ sym (append_assoc (take h bytes) part (drop n bytes))
