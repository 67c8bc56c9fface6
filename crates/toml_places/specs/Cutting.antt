-- How a text is cut into blocks.
use Rattle.std.specs.Prelude.{◌≡◌, ℕ, ◌+◌, ◌-◌, ◌<◌, ◌≤◌, Bool, true, false, List, length, slice_index, slice_range, is_some}
use Rattle.toml_places.specs.declared.cutting.Run.{Run}
use Rattle.toml_places.specs.declared.cutting.Run.TheVariants.{Block, Nothing}
use Rattle.toml_places.specs.declared.cutting.Blocks.{Blocks}
use Rattle.toml_places.specs.Document.{document_in}
use Rattle.toml_places.specs.Lines.{is_line_end}

-- octets that are a document
abbrev pub is_document : List ℕ → Bool
is_document octets = is_some (document_in octets)

-- no run of whole lines from one place on, up to another or less far, is a document
pub record HasNone (text : List ℕ) (from to : ℕ) : Type 0 where
  pub none : (k : ℕ) → from < k → k ≤ to → is_line_end text k ≡ true → is_document (slice_range text from k) ≡ false

-- A BLOCK from one place to another: whole lines that are a document by themselves, and no fewer of them are one
pub record IsBlock (text : List ℕ) (from to : ℕ) : Type 0 where
  pub some : from < to
  pub within : to ≤ length text
  pub ends : is_line_end text to ≡ true
  pub is : is_document (slice_range text from to) ≡ true
  pub least : (k : ℕ) → from < k → k < to → is_line_end text k ≡ true → is_document (slice_range text from k) ≡ false

-- what stands behind a place: a block, or none up to where it was looked
abbrev pub IsRun : List ℕ → ℕ → Run → Type 0
IsRun text from (Block to left) = IsBlock text from to
IsRun text from (Nothing seen) = HasNone text from seen

-- places of which the first is the front and the last is the end, with a block between each two
pub record AreBlocks (text : List ℕ) (places : List ℕ) (end : ℕ) : Type 0 where
  pub some : 0 < length places
  pub front : slice_index places 0 ≡ 0
  pub last : slice_index places (length places - 1) ≡ end
  pub within : (k : ℕ) → k < length places → slice_index places k ≤ length text
  pub blocks : (k : ℕ) → k + 1 < length places → IsBlock text (slice_index places k) (slice_index places (k + 1))

-- a text cut into blocks up to a place, behind which none was found
pub record IsCut (text : List ℕ) (found : Blocks) : Type 0 where
  pub blocks : AreBlocks text found.places found.end
  pub behind : HasNone text found.end found.seen
