use Rattle.std.proofs.Common.{inl, inr, refl, [], ◌∷◌, arith}
use Rattle.tcp_stream.specs.Endpoint.{Byte, Fin}
use Rattle.app_connection.specs.Runs.{IsPiece, more, one, two_sent}
use Rattle.app_connection.proofs.laws.a_middlebox_makes_others.Goals as goal

second_byte : IsPiece two_sent 1073741824 0 (Byte 2 ∷ [])
second_byte = inr (inl (refl, omega arith, record { from = 1; count = 1; within = omega arith; numbered = refl; same = refl }))

last_segment : IsPiece two_sent 1073741824 1 (Byte 3 ∷ Fin ∷ [])
last_segment = inl (refl, omega arith, record { from = 0; count = 2; within = omega arith; numbered = refl; same = refl })

pub returns-clause-split : goal.returns-clause-split
returns-clause-split c = inr (inr (record { items = one 0 (Byte 2 ∷ []) second_byte; ack = inr (inl (refl, omega arith, refl)) }))

pub returns-clause-joined : goal.returns-clause-joined
returns-clause-joined c = inr (inr (record { items = more 0 (Byte 2 ∷ []) (Byte 3 ∷ Fin ∷ []) second_byte (one 1 (Byte 3 ∷ Fin ∷ []) last_segment); ack = inl (refl, omega arith, refl) }))

pub returns-clause-older : goal.returns-clause-older
returns-clause-older c = inr (inl (inr (inl (refl, omega arith, omega arith))))

pub returns-clause-reset : goal.returns-clause-reset
returns-clause-reset c = λ s rst. inl rst
