-- Where the SYN is in a stream.
use Rattle.std.proofs.Common.{◌≡◌, ◌⊎◌, inl, inr, refl, sym, ◌∙◌, ap, ℕ, ◌<◌, List, [], ◌∷◌, ◌++◌, Bool, true, false, map, take, drop, zero, suc, arith}
use Rattle.std.proofs.lemmas.Bool.{false≢true}
use Rattle.tcp_stream.specs.Endpoint.{Item, Syn, Byte, Fin}
use Rattle.tcp_stream.specs.Network.{World, end_of as last_of, stream}
use Rattle.tcp_stream.specs.Items.{items_of, syn_of}
use Rattle.tcp_stream.specs.Waits.{Waits, rest_of}
use Rattle.tcp_stream.specs.declared.sending.Sending.{Sending}

abbrev pub head_syn : List Item → Bool
head_syn [] = false
head_syn (Syn ∷ items) = true
head_syn (Byte b ∷ items) = false
head_syn (Fin ∷ items) = false

nil_syn : (n : ℕ) → head_syn (drop n []) ≡ false
nil_syn zero = refl
nil_syn (suc n) = refl

-- there is none after the first item
tail_syn : (n : ℕ) (written : List ℕ) (closed : Bool) → head_syn (drop n (map Byte written ++ last_of closed)) ≡ false
tail_syn zero [] true = refl
tail_syn zero [] false = refl
tail_syn zero (b ∷ written) closed = refl
tail_syn (suc n) [] true = nil_syn n
tail_syn (suc n) [] false = refl
tail_syn (suc n) (b ∷ written) closed = tail_syn n written closed

pub later_syn : (n : ℕ) (written : List ℕ) (closed : Bool) → 0 < n → head_syn (drop n (stream written closed)) ≡ false
later_syn zero written closed some = absurd (omega (arith, some))
later_syn (suc n) written closed some = tail_syn n written closed

pub rest_syn : (bytes : List ℕ) (fin : Bool) → head_syn (map Byte bytes ++ last_of fin) ≡ false
rest_syn [] true = refl
rest_syn [] false = refl
rest_syn (b ∷ bytes) fin = refl

pub take_syn : (n : ℕ) (items : List Item) → head_syn items ≡ false → head_syn (take n items) ≡ false
take_syn zero items is = refl
take_syn (suc n) [] is = refl
take_syn (suc n) (Syn ∷ items) is = absurd (false≢true (sym is))
take_syn (suc n) (Byte b ∷ items) is = refl
take_syn (suc n) (Fin ∷ items) is = refl

pub syn_flag : (syn fin : Bool) (payload : List ℕ) → head_syn (items_of syn payload fin) ≡ false → syn ≡ false
syn_flag true fin payload is = absurd (false≢true (sym is))
syn_flag false fin payload is = refl

-- after something was acknowledged the SYN waits no more
pub syn_gone : (w : World) (c : Sending) (outgoing : List ℕ) → Waits w c outgoing → 0 < w.acked → c.has_syn ≡ false
syn_gone w c outgoing waits some = elim (either c.has_syn) [
  | inl is ↦ absurd (false≢true (sym (later_syn w.acked w.written w.closed some) ∙ ap head_syn (waits.held ∙ ap (λ (b : Bool). syn_of b ++ rest_of c outgoing) is)))
  | inr gone ↦ gone
]
  where
    either : (b : Bool) → (b ≡ true) ⊎ (b ≡ false)
    either true = inl refl
    either false = inr refl
