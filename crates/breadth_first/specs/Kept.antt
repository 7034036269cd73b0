-- What a space keeps of its keys while it is asked.
use Rattle.std.specs.Prelude.{◌≡◌}
use Rattle.breadth_first.specs.System.{System}

-- between two moments of a space: its system stays, each key that stands for a state still does, and for the same one
pub record Keeps {K S : Type 0} (g : System S) (held : K → Type 0) (means : K → S) (h : System S) (holds : K → Type 0) (stands : K → S) : Type 0 where
  pub system : h ≡ g
  pub still : (key : K) → held key → holds key
  pub stays : (key : K) → held key → stands key ≡ means key
