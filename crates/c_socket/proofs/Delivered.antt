-- Bytes that are delivered in parts.
use Rattle.std.proofs.Common.{◌≡◌, ◌∙◌, sym, ap, subst, ℕ, ◌+◌, ◌≤◌, List, ◌++◌, length}
use Rattle.std.specs.Prelude.{take, drop}
use Rattle.std.proofs.lemmas.List.{append_assoc, length-append, take_at, drop_at, drop-drop, drop-append-le, take-append-drop}
use Rattle.tcp_stream.specs.Network.{run, start, IsPrefixOf}
use Rattle.tcp_stream.specs.Stands.{Stands}
use Rattle.app_connection.specs.Steps.{Reads}
use Rattle.app_connection.specs.declared.connection.Connection.{Connection}
use Rattle.c_socket.specs.Calls.{Delivers}

-- what two calls wrote, one after the other
joined : (xs ys before middle rest after : List ℕ) (n m : ℕ) → n ≡ length xs → middle ≡ xs ++ drop n before
    → rest ≡ ys ++ drop m (drop n middle) → after ≡ take n middle ++ rest → after ≡ (xs ++ ys) ++ drop (n + m) before
joined xs ys before middle rest after n m is first second all =
    let front : take n middle ≡ xs = ap (λ (l : List ℕ). take n l) first ∙ take_at xs (drop n before) n (sym is) in
    let back : drop n middle ≡ drop n before = ap (λ (l : List ℕ). drop n l) first ∙ drop_at xs (drop n before) n (sym is) in
    let end : rest ≡ ys ++ drop (n + m) before = second ∙ ap (λ (l : List ℕ). ys ++ drop m l) back ∙ ap (λ (l : List ℕ). ys ++ l) (drop-drop m n before) in
    all ∙ ap (λ (l : List ℕ). l ++ rest) front ∙ ap (λ (l : List ℕ). xs ++ l) end ∙ sym (append_assoc xs ys (drop (n + m) before))

-- two calls read what both read
reads_twice : (s t u : Connection) (incoming xs ys : List ℕ) → Reads s t incoming xs → Reads t u incoming ys → Reads s u incoming (xs ++ ys)
reads_twice s t u incoming xs ys first second = record {
  same = second.same ∙ ap (λ (c : Connection). record c { receiving = record c.receiving { start = u.receiving.start; len = u.receiving.len } }) first.same;
  stands = λ back consumed stands. subst (λ (l : List ℕ). Stands back l u.receiving incoming) (append_assoc consumed xs ys) (second.stands back (consumed ++ xs) (first.stands back consumed stands));
}

-- two calls deliver what both deliver
pub delivers_twice : (s t u : Connection) (incoming before middle rest after : List ℕ) (n m : ℕ) → Delivers s t incoming before middle n
    → Delivers t u incoming (drop n middle) rest m → after ≡ take n middle ++ rest → Delivers s u incoming before after (n + m)
delivers_twice s t u incoming before middle rest after n m first second all = record {
  bytes = first.bytes ++ second.bytes;
  are = ap (λ (k : ℕ). k + m) first.are ∙ ap (λ (k : ℕ). length first.bytes + k) second.are ∙ sym (length-append first.bytes second.bytes);
  written = joined first.bytes second.bytes before middle rest after n m first.are first.written second.written all;
  reads = reads_twice s t u incoming first.bytes second.bytes first.reads second.reads;
  delivers = λ initial events consumed stands. subst (λ (l : List ℕ). IsPrefixOf l (run events (start initial)).written) (append_assoc consumed first.bytes second.bytes)
      (second.delivers initial events (consumed ++ first.bytes) (first.reads.stands (run events (start initial)) consumed stands));
}

-- a call delivers to the front of an output what it delivers to that front alone
pub delivers_front : (s t : Connection) (incoming before front after : List ℕ) (len n : ℕ) → Delivers s t incoming (take len before) front n
    → n ≤ length (take len before) → after ≡ front ++ drop len before → Delivers s t incoming before after n
delivers_front s t incoming before front after len n part few all =
    let rest : drop n (take len before) ++ drop len before ≡ drop n before =
    sym (drop-append-le n (take len before) (drop len before) few) ∙ ap (λ (l : List ℕ). drop n l) (take-append-drop len before) in
    record {
      bytes = part.bytes;
      are = part.are;
      written = all ∙ ap (λ (l : List ℕ). l ++ drop len before) part.written ∙ append_assoc part.bytes (drop n (take len before)) (drop len before)
          ∙ ap (λ (l : List ℕ). part.bytes ++ l) rest;
      reads = part.reads;
      delivers = part.delivers;
    }
