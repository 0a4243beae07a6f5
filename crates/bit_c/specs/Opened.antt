-- The object that a handle owns.
use Rattle.std.specs.Prelude.{ℕ, List, [], Option, Some, None}
use Rattle.std.specs.Global.{Box}
use Rattle.bit_c.specs.declared.home.Reading.{Reading}
use Rattle.bit_c.specs.declared.home.Home.{Home}
use Rattle.bit_c.specs.declared.home.Home.TheVariants as home

-- the object that was taken out of a handle, or nothing
abbrev pub home_in : Option (Box Home) → Option Home
home_in None = None
home_in (Some box) = Some box.value

-- its events, if it holds events
abbrev pub reading_of : Option Home → Option Reading
reading_of None = None
reading_of (Some (home.Reading reading)) = Some reading
reading_of (Some (home.Text text)) = None
reading_of (Some (home.Writing writer)) = None
reading_of (Some (home.Input bytes)) = None

-- its text, if it holds a text
abbrev pub text_of : Option Home → Option (List ℕ)
text_of None = None
text_of (Some (home.Reading reading)) = None
text_of (Some (home.Text held)) = Some held.text.items
text_of (Some (home.Writing writer)) = None
text_of (Some (home.Input bytes)) = None

-- the input that it gathers; a closed handle gathers no bytes
abbrev pub gathered_by : Option Home → Option (List ℕ)
gathered_by None = Some []
gathered_by (Some (home.Reading reading)) = None
gathered_by (Some (home.Text held)) = None
gathered_by (Some (home.Writing writer)) = None
gathered_by (Some (home.Input bytes)) = Some bytes.items
