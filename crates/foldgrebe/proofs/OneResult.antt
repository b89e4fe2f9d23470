-- One result: two outcomes of an exported call that keep its promise are equal, the answer and every lent word and byte. Assumes nothing.
use Prim.Native.Nat.{ℕ}
use mathlib.Core.List.{List}
use mathlib.Core.Path.{◌≡◌}
use Rattle.ground.proofs.Same.{same}
use Rattle.layout.specs.declared.Layout.{Layout}
use Rattle.foldgrebe.specs.Calls.{WriteCall, ReadCall, VisitCall, FormatCall, AskCall, TurnCall}
use Rattle.foldgrebe.specs.FileCalls.{FileWriteCall, FileLayoutCall, FileReadCall}

pub one_write_call : {image list after after' : List ℕ} {layout : Layout} {block number number' : ℕ}
    → WriteCall image layout block list number after
    → WriteCall image layout block list number' after'
    → (number ≡ number') × (after ≡ after')
one_write_call w w' = (same w.answers w'.answers, same w.leaves w'.leaves)

pub one_read_call : {image buffer kept kept' after after' verdict verdict' : List ℕ} {layout : Layout} {block number number' : ℕ}
    → ReadCall image layout block buffer number kept after verdict
    → ReadCall image layout block buffer number' kept' after' verdict'
    → (number ≡ number') × (kept ≡ kept') × (after ≡ after') × (verdict ≡ verdict')
one_read_call w w' =
    (same w.answers w'.answers, same w.keeps w'.keeps, same w.leaves w'.leaves, same w.says w'.says)

pub one_visit_call : {image after after' verdict verdict' : List ℕ} {layout : Layout} {block number number' : ℕ}
    → VisitCall image layout block number after verdict
    → VisitCall image layout block number' after' verdict'
    → (number ≡ number') × (after ≡ after') × (verdict ≡ verdict')
one_visit_call w w' = (same w.answers w'.answers, same w.leaves w'.leaves, same w.says w'.says)

pub one_format_call : {image after after' words words' : List ℕ} {layout : Layout} {number number' : ℕ}
    → FormatCall image layout number after words
    → FormatCall image layout number' after' words'
    → (number ≡ number') × (after ≡ after') × (words ≡ words')
one_format_call w w' = (same w.answers w'.answers, same w.leaves w'.leaves, same w.back w'.back)

pub one_ask_call : {lent words words' place place' : List ℕ} {block number number' : ℕ}
    → AskCall lent block number words place
    → AskCall lent block number' words' place'
    → (number ≡ number') × (words ≡ words') × (place ≡ place')
one_ask_call w w' = (same w.answers w'.answers, same w.back w'.back, same w.says w'.says)

pub one_turn_call : {lent image words words' after after' report report' : List ℕ} {number number' : ℕ}
    → TurnCall lent image number words after report
    → TurnCall lent image number' words' after' report'
    → (number ≡ number') × (words ≡ words') × (after ≡ after') × (report ≡ report')
one_turn_call w w' =
    (same w.answers w'.answers, same w.back w'.back, same w.leaves w'.leaves, same w.says w'.says)

pub one_file_write_call : {image buffer kept kept' after after' written written' : List ℕ} {layout : Layout} {number number' : ℕ}
    → FileWriteCall image layout buffer number kept after written
    → FileWriteCall image layout buffer number' kept' after' written'
    → (number ≡ number') × (kept ≡ kept') × (after ≡ after') × (written ≡ written')
one_file_write_call w w' =
    (same w.answers w'.answers, same w.keeps w'.keeps, same w.leaves w'.leaves, same w.says w'.says)

pub one_file_layout_call : {bytes kept kept' layout layout' : List ℕ} {number number' : ℕ}
    → FileLayoutCall bytes number kept layout
    → FileLayoutCall bytes number' kept' layout'
    → (number ≡ number') × (kept ≡ kept') × (layout ≡ layout')
one_file_layout_call w w' = (same w.answers w'.answers, same w.keeps w'.keeps, same w.says w'.says)

pub one_file_read_call : {bytes image kept kept' after after' layout layout' : List ℕ} {number number' : ℕ}
    → FileReadCall bytes image number kept after layout
    → FileReadCall bytes image number' kept' after' layout'
    → (number ≡ number') × (kept ≡ kept') × (after ≡ after') × (layout ≡ layout')
one_file_read_call w w' =
    (same w.answers w'.answers, same w.keeps w'.keeps, same w.leaves w'.leaves, same w.says w'.says)
