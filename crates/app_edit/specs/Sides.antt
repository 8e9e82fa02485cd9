-- The two ends of a packet.
-- Pinned by: `worked/nat`
use Rattle.app_edit.specs.declared.side.Side.{Side}
use Rattle.app_edit.specs.declared.side.Side.TheVariants.{Source, Destination}

-- the other side: destination for source, source for destination
abbrev pub opposite : Side → Side
opposite Source = Destination
opposite Destination = Source
