-- How long texts are at most, put together of parts. Assumes nothing.
use Prim.Native.Nat.{ℕ, suc, ◌+◌, ◌^◌, ◌≤◌, ◌<◌}
use Prim.Native.String.{String}
use mathlib.Core.List.{List, [], ◌∷◌, ◌++◌}
use native.Mathlib.Omega.{arith}
use lib.ListN.{length, length-append}
use Rattle.text.specs.Text.{ascii, decimal, named, line_end}
use Rattle.text.specs.Page.{end_to_end}
use Rattle.text.proofs.Decimal.{decimal_short}

-- a text of at most so many bytes
pub record Short (text : List ℕ) (most : ℕ) : Type 0 where
  pub few : length text ≤ most

infixl 65 ◌and◌
pub ◌and◌ : {a b : List ℕ} {m n : ℕ} → Short a m → Short b n → Short (a ++ b) (m + n)
◌and◌ {a} {b} {m} {n} h k = record { few = omega (arith, length-append a b, h.few, k.few) }

-- a text and a number of at most so many digits
pub named_short : (text : String) (n most : ℕ) → length (decimal n) ≤ most → Short (named text n) (length (ascii text) + most)
named_short text n most h = record { few = omega (arith, length-append (ascii text) (decimal n)) }

pub any_length : (text : List ℕ) → Short text (length text)
any_length text = record { few = omega arith }

pub loosely : {text : List ℕ} {few most : ℕ} → Short text few → few ≤ most → Short text most
loosely h k = record { few = omega (arith, h.few) }

pub one_end : Short line_end 1
one_end = any_length line_end

-- ---- parts, end to end

pub record ShortAll (parts : List (List ℕ)) (most : ℕ) : Type 0 where
  pub few : length (end_to_end parts) ≤ most

pub nothing : ShortAll [] 0
unfolding end_to_end
nothing = record { few = omega arith }

pub and_then : {part : List ℕ} {parts : List (List ℕ)} {m n : ℕ} → Short part m → ShortAll parts n → ShortAll (part ∷ parts) (m + n)
unfolding end_to_end
and_then {part} {parts} h k = record { few = omega (arith, length-append part (end_to_end parts), h.few, k.few) }

pub one_text : (text : String) → Short (ascii text) (length (ascii text))
one_text text = any_length (ascii text)

pub one_number : (n digits : ℕ) → n < 10 ^ suc digits → Short (decimal n) (suc digits)
one_number n digits h = record { few = decimal_short digits n h }
