-- The command language: what a line's fields ask for.
use Rattle.std.specs.Prelude.{◌≡◌, ℕ, zero, suc, ◌+◌, ◌-◌, ◌^◌, ◌<◌, ◌≤◌, Bool, true, false, cond, ◌&&◌, ◌||◌, ◌⊎◌, List, [], ◌∷◌, ◌++◌, map, length, Result, Ok, MatchResult, get_or, take, ℤ, vec_items, codes, IsUtf8, FitsSigned, ◌==◌, ◌≢◌, nat_lt, slice_index, slice_index_or}
use Rattle.std.specs.Borrow.{Bor}
use Rattle.std.specs.List.{join_with_byte, prefix_len}
use Rattle.std.specs.Str.Parse.{IsNumeral, digits_value, without_leading_plus, without_leading_sign, signed_digits_value}
use Rattle.std.specs.Char.{is_ascii_whitespace}
use Rattle.charges.specs.Named.{name_of as charge_name}
use Rattle.charges.specs.declared.charge.Asked.{Asked}
use Rattle.charges.specs.declared.named.NamedCharge.{NamedCharge}
use Rattle.sharing.specs.Named.{name_of}
use Rattle.sharing.specs.declared.rule.named.NamedRule.{NamedRule}
use Rattle.std.specs.Int.{w64}
use Rattle.settle.specs.declared.command.Field.{Field}
use Rattle.settle.specs.declared.command.Field.TheVariants.{Command as CommandField, Rule as RuleField, Room as RoomField, Total as TotalField, Weight as WeightField, Charge as ChargeField, Hours as HoursField, Trued as TruedField, Word as WordField}
use Rattle.settle.specs.declared.command.fields.Flag.{Flag}
use Rattle.settle.specs.declared.command.fields.Word.{Word}
use Rattle.settle.specs.declared.command.Unread.{Unread}
use Rattle.settle.specs.declared.command.Unread.TheVariants.{NotText, Missing, Malformed, Surplus, NoMemory}
use Rattle.settle.specs.declared.command.Command.{Command}
use Rattle.settle.specs.declared.command.Command.TheVariants.{Share, Block, Report}

-- nothing but ASCII white space: tabs, line and form feeds, carriage returns and spaces
abbrev pub blank : List ℕ → Bool
blank line = prefix_len is_ascii_whitespace line == length line

-- a comment, which begins with #, or a blank line
abbrev pub skipped : List ℕ → Bool
skipped line = slice_index line 0 == 35 || blank line

-- the bytes of each field
abbrev pub texts : List (Bor (List ℕ)) → List (List ℕ)
texts fields = map (λ f. f.now) fields

-- the text writes the number in decimal
abbrev pub Writes : List ℕ → ℕ → Type 0
Writes text n = IsNumeral 10 (without_leading_plus text) × (n ≡ digits_value 10 (without_leading_plus text))

abbrev pub WritesSigned : List ℕ → ℤ → Type 0
WritesSigned text z = IsNumeral 10 (without_leading_sign text) × (z ≡ signed_digits_value 10 text)

-- the text writes the number in decimal or, behind 0x, in hexadecimal
abbrev pub WritesWord : List ℕ → ℕ → Type 0
WritesWord text n =
    ((digits : List ℕ) × (text ≡ codes "0x" ++ digits) × IsNumeral 16 (without_leading_plus digits) × (n ≡ digits_value 16 (without_leading_plus digits)))
    ⊎ (((digits : List ℕ) → text ≢ codes "0x" ++ digits) × Writes text n)

abbrev pub flag : Bool → List ℕ
flag false = codes "0"
flag true = codes "1"

-- a text is read as the flag that it is, and refused if it is none
abbrev pub ReadsFlag : {E : Type 0} → List ℕ → Result Flag E → Type 0
ReadsFlag text result = MatchResult result (λ set. text ≡ flag set.0) (λ _. (set : Bool) → text ≢ flag set)

-- a text is read as the word that it writes, and refused if it writes none of 32 bits
abbrev pub ReadsWord : {E : Type 0} → List ℕ → Result Word E → Type 0
ReadsWord text result = MatchResult result (λ word. WritesWord text word.0) (λ _. (n : ℕ) → WritesWord text n → n < 2 ^ 32 → ⊥)

-- the text is read as a value, which stands for the number
abbrev pub ReadAs : {N E : Type 0} → (List ℕ → Result N E → Type 0) → (N → ℕ → Type 0) → List ℕ → ℕ → Type 0
ReadAs {N = N} reads means text n = (value : N) × reads text (Ok value) × means value n

-- the fields from a place on are as many as the numbers, and stand for them each by W
pub record EachField (W : List ℕ → ℕ → Type 0) (first : ℕ) (fields : List (List ℕ)) (numbers : List ℕ) : Type 0 where
  pub as_many : length fields ≡ first + length numbers
  pub each : (k : ℕ) → k < length numbers → W (slice_index_or fields (first + k) []) (slice_index numbers k)

-- share RULE ROOM TOTAL WEIGHT...
pub record AsksShare (fields : List (List ℕ)) (rule : NamedRule) (room : ℕ) (total : ℤ) (weights : List ℕ) : Type 0 where
  pub command_field : get_or fields 0 [] ≡ codes "share"
  pub rule_field : get_or fields 1 [] ≡ name_of rule
  pub room_field : Writes (slice_index_or fields 2 []) room
  pub total_field : WritesSigned (slice_index_or fields 3 []) total
  pub no_more_fields : length fields ≡ 4 + length weights
  pub weight_fields : (k : ℕ) → k < length weights → Writes (slice_index_or fields (4 + k) []) (slice_index weights k)

-- block TYPE HOURS TRUED ROOM WORD...
pub record AsksBlock (fields : List (List ℕ)) (charge : NamedCharge) (asked : Asked) (room : ℕ) (words : List ℕ) : Type 0 where
  pub command_field : get_or fields 0 [] ≡ codes "block"
  pub type_field : get_or fields 1 [] ≡ charge_name charge
  pub hours_field : Writes (slice_index_or fields 2 []) asked.hours
  pub trued_field : get_or fields 3 [] ≡ flag asked.trued_up
  pub room_field : Writes (slice_index_or fields 4 []) room
  pub no_more_fields : length fields ≡ 5 + length words
  pub word_fields : (k : ℕ) → k < length words → WritesWord (slice_index_or fields (5 + k) []) (slice_index words k)

-- the fields of a line that asks for the command
abbrev pub Asks : List (List ℕ) → Command → Type 0
Asks fields (Share rule room total weights) = AsksShare fields rule room total (vec_items weights)
Asks fields (Block charge asked room words) = AsksBlock fields charge asked room (vec_items words)
Asks fields Report = fields ≡ codes "tally" ∷ []

-- a line without one byte `end` at its end
abbrev pub without_last : ℕ → List ℕ → List ℕ
without_last end line = cond (nat_lt 0 (length line) && slice_index line (length line - 1) == end) (take (length line - 1) line) line

-- a line without its end: a line feed, and a carriage return before it
abbrev pub content : List ℕ → List ℕ
content line = without_last 13 (without_last 10 line)

-- the fields stand in the line, a space between each two, and ask for the command
abbrev pub LineAsks : List ℕ → Command → Type 0
LineAsks line command = (fields : List (List ℕ)) × (join_with_byte 32 fields ≡ content line) × Asks fields command

-- the text does not suit the field
abbrev pub Unsuited : Field → List ℕ → Type 0
Unsuited CommandField text = (text ≢ codes "share") × (text ≢ codes "block") × (text ≢ codes "tally")
Unsuited RuleField text = (rule : NamedRule) → text ≢ name_of rule
Unsuited RoomField text = (n : ℕ) → Writes text n → n < 2 ^ 64 → ⊥
Unsuited TotalField text = (z : ℤ) → WritesSigned text z → FitsSigned w64 z → ⊥
Unsuited WeightField text = (n : ℕ) → Writes text n → n < 2 ^ 32 → ⊥
Unsuited ChargeField text = (charge : NamedCharge) → text ≢ charge_name charge
Unsuited HoursField text = (n : ℕ) → Writes text n → n < 2 ^ 64 → ⊥
Unsuited TruedField text = (set : Bool) → text ≢ flag set
Unsuited WordField text = (n : ℕ) → WritesWord text n → n < 2 ^ 32 → ⊥

-- what is wrong with the field that should stand at a place: it is missing, or its text does not suit
abbrev pub FieldWrong : List (List ℕ) → ℕ → Field → Unread → Type 0
FieldWrong fields at field NotText = ⊥
FieldWrong fields at field (Missing n f) = (n ≡ at) × (f ≡ field) × (length fields ≤ at)
FieldWrong fields at field (Malformed n f) = (n ≡ at) × (f ≡ field) × (at < length fields) × Unsuited field (slice_index_or fields at [])
FieldWrong fields at field (Surplus n) = ⊥
FieldWrong fields at field NoMemory = ⊥

-- what is wrong with the fields from a place on: one of them, or there was no memory for what they write
abbrev pub RestWrong : ℕ → List (List ℕ) → Field → Unread → Type 0
RestWrong first fields field u = ((at : ℕ) × (first ≤ at) × (at < length fields) × FieldWrong fields at field u) ⊎ (u ≡ NoMemory)

-- which field stands where behind the name in share RULE ROOM TOTAL WEIGHT...
abbrev pub share_field : ℕ → Field
share_field zero = RuleField
share_field (suc zero) = RoomField
share_field (suc (suc zero)) = TotalField
share_field (suc (suc (suc n))) = WeightField

-- and in block TYPE HOURS TRUED ROOM WORD...
abbrev pub block_field : ℕ → Field
block_field zero = ChargeField
block_field (suc zero) = HoursField
block_field (suc (suc zero)) = TruedField
block_field (suc (suc (suc zero))) = RoomField
block_field (suc (suc (suc (suc n)))) = WordField

-- the field that belongs at a place of a line
abbrev pub Belongs : List (List ℕ) → ℕ → Field → Type 0
Belongs fields zero field = field ≡ CommandField
Belongs fields (suc n) field =
    ((slice_index_or fields 0 [] ≡ codes "share") × (field ≡ share_field n)) ⊎ ((slice_index_or fields 0 [] ≡ codes "block") × (field ≡ block_field n))

-- what is wrong with the fields of a line that is no command: they end too soon; one does not suit; `tally` has more than
-- its name; or there was no memory to read them
abbrev pub Wrong : List (List ℕ) → Unread → Type 0
Wrong fields NotText = ⊥
Wrong fields (Missing at field) = (at ≡ length fields) × Belongs fields at field
Wrong fields (Malformed at field) = (at < length fields) × Belongs fields at field × Unsuited field (slice_index_or fields at [])
Wrong fields (Surplus at) = (at ≡ 1) × (1 < length fields) × (slice_index_or fields 0 [] ≡ codes "tally")
Wrong fields NoMemory = Unit {0}

-- the same of a line, or it is no text at all
abbrev pub LineWrong : List ℕ → Unread → Type 0
LineWrong line unread =
    ((unread ≡ NotText) × (IsUtf8 (content line) → ⊥)) ⊎ ((fields : List (List ℕ)) × (join_with_byte 32 fields ≡ content line) × Wrong fields unread)
