-- The options of the TCP header in a frame: one list.
use Rattle.std.proofs.Common.{ℕ, ◌≡◌, ◌≢◌, ◌∙◌, List, ap, arith, inl, inr, sym}
use Rattle.std.proofs.lemmas.Bool.{cases_lt}
use Rattle.c_read.specs.FrameOptions.{HasOptions, header_in}
use Rattle.c_read.specs.TcpOptions.{tcp_options_of}
use Rattle.c_structs.specs.declared.types.FrameFields.{FrameFields}
use Rattle.c_structs.specs.declared.types.TcpOptions.{TcpOptions}
use Rattle.promises_c.proofs.Once.{one_options}

-- the struct of options of a frame
pub frame_options_once : (f : FrameFields) (frame : List ℕ) (a b : TcpOptions) → HasOptions f frame a → HasOptions f frame b → a ≡ b
frame_options_once f frame a b x y = elim (cases_lt f.transport 2) [
  | inl less ↦ other (λ e. omega (arith, less, e))
  | inr least ↦ elim (cases_lt 2 f.transport) [
    | inl more ↦ other (λ e. omega (arith, more, e))
    | inr most ↦
        let tcp : f.transport ≡ 2 = omega (arith, least, most) in
        let (items, reads, is) = x.stored tcp in
        let (others, again, also) = y.stored tcp in
        is ∙ ap tcp_options_of (one_options (header_in f frame) items others reads again) ∙ sym also
  ]
]
  where
    other : f.transport ≢ 2 → a ≡ b
    other not = x.none not ∙ sym (y.none not)
