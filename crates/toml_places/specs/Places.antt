-- Where a path stands in a text, and what is wrong with one that is no document.
use Rattle.std.specs.Prelude.{◌≡◌, ℕ, ◌-◌, ◌<◌, ◌≤◌, true, false, List, length, take, slice_range, Some, None}
use Rattle.std.specs.Str.Lossy.{utf8_valid_len}
use Rattle.toml_places.specs.declared.path.Step.{Step}
use Rattle.toml_places.specs.declared.places.Spot.{Spot}
use Rattle.toml_places.specs.declared.places.Wrong.{Wrong}
use Rattle.toml_places.specs.declared.places.Wrong.TheVariants as wrongs
use Rattle.toml_places.specs.declared.seeking.Sought.{Sought}
use Rattle.toml_places.specs.Cutting.{is_document, HasNone, IsBlock}
use Rattle.toml_places.specs.Document.{text_in}
use Rattle.toml_places.specs.Items.{IsLineIn}
use Rattle.toml_places.specs.Seeking.{told, has}

-- the block with which the front of a text comes to have what is sought
pub record IsTurn (text : List ℕ) (sought : Sought) (from to : ℕ) : Type 0 where
  pub block : IsBlock text from to
  pub before : told sought (take from text) ≡ Some false
  pub behind : told sought (take to text) ≡ Some true

-- WHERE A PATH STANDS: the text before its block is a document without it, and with the block one that has it
pub record IsSpot (text : List ℕ) (path : List Step) (spot : Spot) : Type 0 where
  pub block : IsBlock text spot.from spot.to
  pub before : has path (take spot.from text) ≡ Some false
  pub behind : has path (take spot.to text) ≡ Some true
  pub not_before : spot.from ≤ spot.line
  pub not_behind : spot.line ≤ spot.to
  pub line : IsLineIn (slice_range text spot.from spot.to) path (spot.line - spot.from)

-- no text of UTF-8 from an octet on
pub record IsWrongOctet (octets : List ℕ) (at : ℕ) : Type 0 where
  pub no_text : text_in octets ≡ None
  pub within : at < length octets
  pub first : at ≡ utf8_valid_len octets

-- the lines before are a document, and the line begins no block up to a place
pub record IsWrongLine (text : List ℕ) (from seen : ℕ) : Type 0 where
  pub within : from ≤ length text
  pub before : is_document (take from text) ≡ true
  pub none : HasNone text from seen

-- the lines before are a document, and together with the block they are none
pub record IsWrongBlock (text : List ℕ) (from to : ℕ) : Type 0 where
  pub block : IsBlock text from to
  pub before : is_document (take from text) ≡ true
  pub behind : is_document (take to text) ≡ false

-- WHAT IS WRONG with octets that are no document
abbrev pub IsWrong : List ℕ → Wrong → Type 0
IsWrong octets (wrongs.Octet at) = IsWrongOctet octets at
IsWrong octets (wrongs.Line from seen) = IsWrongLine octets from seen
IsWrong octets (wrongs.Block from to) = IsWrongBlock octets from to
