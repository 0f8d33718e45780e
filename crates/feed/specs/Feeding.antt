-- Document 02, §8: a header that comes in pieces. Each line is read when its LF is there, the last one when the sender closes. Assumes nothing.
use Rattle.std.specs.Prelude.{ℕ, ◌+◌, Bool, true, false, ◌&&◌, List, [], ◌∷◌, leb, length, take, Option, None, Some}
use Rattle.std.proofs.lemmas.List.Edits.{sets}
use Rattle.values.specs.Bytes.{Bytes}
use Rattle.rules.specs.Version.{Version}
use Rattle.entries.specs.declared.form.Form.{Form}
use Rattle.entries.specs.Tables.{all_formed}
use Rattle.entries.specs.Values.{limits_by}
use Rattle.lines.specs.Lines.{last_end}
use Rattle.header.specs.Steps.{Spot, Told, start_spot, fits, read_on, table_on}
use Rattle.header.specs.Parsers.{AnswerMeaning, refused_at, closed_at}

-- between two calls: the version imposed, how far the lines are read, the bytes held, and the final answer once there is one
pub record Feeding : Type 0 where
  pub imposed : Option Version
  pub spot : Spot
  pub held : ℕ
  pub ended : Option AnswerMeaning

abbrev pub start_of : Option Version → Feeding
start_of imposed = record { imposed = imposed; spot = start_spot; held = 0; ended = None }

-- what a call leaves: the state, the answer, the buffer and the table
pub record Fed : Type 0 where
  pub state : Feeding
  pub answer : AnswerMeaning
  pub buffer : Bytes
  pub table : List ℕ

-- 29

-- the bytes held are in the buffer, the counts fit, and each entry is well formed in the bytes held
unfoldable pub is_sound : Form → Feeding → Bytes → List ℕ → Bool
is_sound form s b t = leb s.held (length b) && (fits form s.held t s.spot && all_formed form (take s.held b) t 0 s.spot.count)

-- nothing changes
abbrev pub unmoved : Feeding → AnswerMeaning → Bytes → List ℕ → Fed
unmoved s a b t = record { state = s; answer = a; buffer = b; table = t }

abbrev pub broken : AnswerMeaning
broken = record { number = 29; line = 0; start = 0; entries = 0; accepted = None }

-- a state that is broken, one that has ended, or any other
abbrev pub unless_over : Bool → Feeding → Bytes → List ℕ → Option AnswerMeaning → Fed → Fed
unless_over false s b t ended next = unmoved s broken b t
unless_over true s b t (Some a) next = unmoved s a b t
unless_over true s b t None next = next

-- A piece

-- it fits whole
unfoldable pub has_room : Form → ℕ → Bytes → Bytes → Bool
has_room form held piece b = leb (held + length piece) (length b) && leb (held + length piece) (limits_by form).header

-- 27: line and start are 0
abbrev pub too_long : Spot → AnswerMeaning
too_long p = record { number = 27; line = 0; start = 0; entries = p.count; accepted = None }

-- lines, bytes and entries so far
abbrev pub so_far : ℕ → Spot → AnswerMeaning
so_far held p = record { number = 0; line = p.line; start = held; entries = p.count; accepted = None }

abbrev pub ended_state : Option Version → Spot → ℕ → AnswerMeaning → Feeding
ended_state imposed p held a = record { imposed = imposed; spot = p; held = held; ended = Some a }

abbrev pub open_state : Option Version → Spot → ℕ → Feeding
open_state imposed p held = record { imposed = imposed; spot = p; held = held; ended = None }

-- after lines: the first refusal ends the state
abbrev pub state_by : Option Version → ℕ → Option ℕ → Spot → Feeding
state_by imposed held None p = open_state imposed p held
state_by imposed held (Some n) p = ended_state imposed p held (refused_at n p)

abbrev pub answer_by : ℕ → Option ℕ → Spot → AnswerMeaning
answer_by held None p = so_far held p
answer_by held (Some n) p = refused_at n p

-- the complete lines of the bytes held, h
abbrev pub complete_told : Form → Feeding → Bytes → List ℕ → Told
complete_told form s h t = read_on form s.imposed h (last_end h s.spot.at) t s.spot

abbrev pub complete_table : Form → Feeding → Bytes → List ℕ → List ℕ
complete_table form s h t = table_on form s.imposed h (last_end h s.spot.at) t s.spot

-- with so many bytes of the buffer held
abbrev pub complete_fed : Form → Feeding → ℕ → Bytes → List ℕ → Fed
complete_fed form s held b t = record {
  state = state_by s.imposed held (complete_told form s (take held b) t).stop (complete_told form s (take held b) t).spot;
  answer = answer_by held (complete_told form s (take held b) t).stop (complete_told form s (take held b) t).spot;
  buffer = b;
  table = complete_table form s (take held b) t;
}

unfoldable pub piece_fed : Form → Feeding → Bytes → Bytes → List ℕ → Fed
piece_fed form s piece b t = elim (has_room form s.held piece b) [
  | true ↦ complete_fed form s (s.held + length piece) (sets b s.held piece) t
  | false ↦ record { state = ended_state s.imposed s.spot s.held (too_long s.spot); answer = too_long s.spot; buffer = b; table = t }
]

unfoldable pub feed_of : Form → Feeding → Bytes → Bytes → List ℕ → Fed
feed_of form s piece b t = unless_over (is_sound form s b t) s b t s.ended (piece_fed form s piece b t)

-- The end

-- all lines that are left of the bytes held, h
abbrev pub rest_told : Form → Feeding → Bytes → List ℕ → Told
rest_told form s h t = read_on form s.imposed h s.held t s.spot

abbrev pub rest_table : Form → Feeding → Bytes → List ℕ → List ℕ
rest_table form s h t = table_on form s.imposed h s.held t s.spot

abbrev pub rest_fed : Form → Feeding → Bytes → List ℕ → Fed
rest_fed form s b t = record {
  state = ended_state s.imposed (rest_told form s (take s.held b) t).spot s.held (closed_at (rest_told form s (take s.held b) t));
  answer = closed_at (rest_told form s (take s.held b) t);
  buffer = b;
  table = rest_table form s (take s.held b) t;
}

unfoldable pub close_of : Form → Feeding → Bytes → List ℕ → Fed
close_of form s b t = unless_over (is_sound form s b t) s b t s.ended (rest_fed form s b t)

-- Several pieces, one after the other, and then the end

unfoldable pub feed_all : Form → Feeding → List Bytes → Bytes → List ℕ → Fed
feed_all form s [] b t = close_of form s b t
feed_all form s (x ∷ xs) b t = feed_all form (feed_of form s x b t).state xs (feed_of form s x b t).buffer (feed_of form s x b t).table
