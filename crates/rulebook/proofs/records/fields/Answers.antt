-- `records::fields` reads the fields of each kind where the definition has them, and goes on by the length of the kind's body.
use native.Mathlib.Omega.{arith}
use lib.Seq.{get_or-drop}
use Rattle.policy.specs.Rulebook.{body_length, record_of}
use Rattle.rulebook.proofs.FieldLaws.{first_byte, number_from}
use Rattle.rulebook.proofs.KindLaws.{no_fields}
use Rattle.rulebook.proofs.records.fields.Goals as goal

pub returns-in-1 : goal.returns-in-1
unfolding body_length record_of
returns-in-1 c =
    let s = c.args.book.now in
    let at = c.args.at in
    record { same = rw (c.in-1.is, first_byte s at); next = rw c.in-1.is }

pub returns-in-2 : goal.returns-in-2
unfolding body_length record_of
returns-in-2 c =
    let s = c.args.book.now in
    let at = c.args.at in
    record { same = rw (c.in-2.is, first_byte s at, get_or-drop at s 1 0); next = rw c.in-2.is }

pub returns-in-3 : goal.returns-in-3
unfolding body_length record_of
returns-in-3 c =
    let s = c.args.book.now in
    let at = c.args.at in
    record { same = rw (c.in-3.is, first_byte s at, number_from s at 2 1, c.number16-level.ensures); next = rw c.in-3.is }

pub returns-in-4 : goal.returns-in-4
unfolding body_length record_of
returns-in-4 c =
    let s = c.args.book.now in
    let at = c.args.at in
    record {
      same =
          rw (c.in-4.is, first_byte s at, get_or-drop at s 1 0, get_or-drop at s 2 0, number_from s at 2 3, c.number16-level-in-4.ensures);
      next = rw c.in-4.is;
    }

pub returns-in-5 : goal.returns-in-5
unfolding body_length record_of
returns-in-5 c =
    let s = c.args.book.now in
    let at = c.args.at in
    record { same = rw (c.in-5.is, first_byte s at, number_from s at 8 1, c.number64-rights.ensures); next = rw c.in-5.is }

pub returns-in-6 : goal.returns-in-6
unfolding body_length record_of
returns-in-6 c =
    let s = c.args.book.now in
    let at = c.args.at in
    record { same = rw (c.in-6.is, first_byte s at, get_or-drop at s 1 0); next = rw c.in-6.is }

pub returns-in-7 : goal.returns-in-7
unfolding body_length record_of
returns-in-7 c =
    let s = c.args.book.now in
    let at = c.args.at in
    record { same = rw (c.in-7.is, first_byte s at); next = rw c.in-7.is }

pub returns-in-0 : goal.returns-in-0
returns-in-0 c =
    no_fields c.args.kind (λ e. omega arith) (λ e. omega arith) (λ e. omega arith) (λ e. omega arith) (λ e. omega arith)
    (λ e. omega arith) (λ e. omega arith)

pub returns-in-0-2 : goal.returns-in-0-2
returns-in-0-2 c =
    no_fields c.args.kind (λ e. omega arith) (λ e. omega arith) (λ e. omega arith) (λ e. omega arith) (λ e. omega arith)
    (λ e. omega arith) (λ e. omega arith)
