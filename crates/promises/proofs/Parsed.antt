-- What a parser returns if the bytes have one reading.
use Rattle.std.proofs.Common.{ℕ, ◌≡◌, List}
use Rattle.std.specs.Prelude.{IfOk, IsOkAnd, OnErr, Result, Ok, Err}
use Rattle.ip_wire.specs.TcpRepr.{TcpHeader, header_of}
use Rattle.ip_wire.specs.declared.TcpRepr.{TcpRepr}

-- this header and payload, if the bytes parse as them and as no others
pub parsed : {E : Type 0} (R : TcpHeader → List ℕ → Type 0) (h : TcpHeader) (p : List ℕ) (r : Result TcpRepr E) → R h p
    → ((v w : TcpHeader) (q s : List ℕ) → R v q → R w s → (v ≡ w) × (q ≡ s))
    → IfOk r (λ v. R (header_of v) v.payload.now) → OnErr r ((v : TcpHeader) (q : List ℕ) → R v q → ⊥)
    → IsOkAnd r (λ v. header_of v ≡ h) × IsOkAnd r (λ v. v.payload.now ≡ p)
parsed R h p (Ok v) read once ok err = once (header_of v) h v.payload.now p ok read
parsed R h p (Err e) read once ok err = absurd (err h p read)
