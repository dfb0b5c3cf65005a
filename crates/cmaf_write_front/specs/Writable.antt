-- What a front can be written from, and what its length goes by.
-- ==== What only mirrors the code
use Rattle.std.specs.Prelude.{ℕ, List}
use Rattle.track.specs.declared.Track.{Track}
use Rattle.prft_value.specs.declared.Prft.{Prft}
use Rattle.event_value.specs.Events.{EventsFit}
use Rattle.cmaf_write_senc.specs.Protection.{Protectable}
use Rattle.effective.specs.Sizes.{Sized}
use Rattle.prft_value.specs.Prft.{Headed}
use Rattle.cmaf_write_prelude.specs.Branded.{Branded}
use Rattle.cmaf_write_emsg.specs.Emsg.{EventsShort}

pub record Writable (t : Track) (w : List ℕ) (payload : ℕ) (p : Prft) (o ws : List ℕ) (k : ℕ) (b : List ℕ) : Type 0 where
  pub set : Protectable t w
  pub sized : Sized w payload
  pub prft : Headed p
  pub events : EventsFit o ws k
  pub brands : Branded b

pub record Weighable (t : Track) (w ws : List ℕ) (k : ℕ) (b : List ℕ) : Type 0 where
  pub set : Protectable t w
  pub events : EventsShort ws k
  pub brands : Branded b
