-- The page of a code of a fault, line by line.
use Rattle.std.specs.List.{flat_map}
use Rattle.std.specs.Prelude.{ℕ, List, [], ◌∷◌, ◌++◌, codes}
use Rattle.code.specs.Listing.{line}
use Rattle.explanation.specs.Remedies.{remedy_text}
use Rattle.source.specs.Codes.{code_name, code_text}
use Rattle.source.specs.declared.fault.Code.{Code}
use Rattle.source.specs.declared.fault.Code.TheVariants.{BadCharacter, NumberTooLarge, UnexpectedToken, NestedTooDeep}
use Rattle.source.specs.declared.fault.Code.TheVariants.{DeclaredTwice, UnknownName, WrongType, WrongArgumentCount}
use Rattle.source.specs.declared.fault.Code.TheVariants.{NotAssignable, NeitherFinalNorProtected, ProtectedByNoLock}
use Rattle.source.specs.declared.fault.Code.TheVariants.{ProtectedByPassesNonFinal, UnstableBase, LockOrderCycle}
use Rattle.source.specs.declared.fault.Code.TheVariants.{LimitExceeded, FinalWithoutOpeningValue}
use Rattle.source.specs.declared.fault.Code.TheVariants.{InitOutOfRangeOrRepeated, MisplacedReturn, LockAsValue}
use Rattle.source.specs.declared.fault.Code.TheVariants.{RecursiveHelper}

-- the places of faults of this code, in lines
unfoldable pub places : Code → List ℕ
places BadCharacter =
    flat_map line
    (codes "At a byte outside comments that begins no token and is neither white space nor"
    ∷ codes "a digit: `#`, `\"`, `&` or `|` alone, any byte over 127. A byte order mark,"
    ∷ codes "which editors hide, is one at 1:1."
    ∷ [])
places NumberTooLarge = line (codes "At a number over 9223372036854775807, also after a `-`.")
places UnexpectedToken =
    flat_map line
    (codes "At the first token with which no program goes on. The end of the text counts"
    ∷ codes "as a token, at the byte after the last one."
    ∷ [])
places NestedTooDeep =
    flat_map line
    (codes "At the first `(`, `[` or `{` inside 64 open ones. At one token `E03` goes"
    ∷ codes "first."
    ∷ [])
places DeclaredTwice =
    flat_map line
    (codes "At the later of two names of the top level, members of one struct, locals of"
    ∷ codes "one section or helper. At the later of two equal classes of a section's list."
    ∷ codes "At a local with a name of the top level, even a later one."
    ∷ [])
places UnknownName =
    flat_map line
    (codes "At a name that is not declared, not in scope, or no member of the struct, also"
    ∷ codes "in an annotation, an `init`, a type, a call or the list of a section's head."
    ∷ [])
places WrongType =
    flat_map line
    (codes "- At the start of an expression or constant not of the expected type: an int for"
    ∷ codes "  a condition, a truth value for `print`, a reference for `+` or to another"
    ∷ codes "  struct."
    ∷ codes "- Of `==` and `!=` at the right side where both are unlike, at the left where"
    ∷ codes "  both are truth values."
    ∷ codes "- After `where`: at the first name, where the bound local is not a reference"
    ∷ codes "  or the member is a field that is not final; at the second, where that is not"
    ∷ codes "  a local, or is of another type than the final reference."
    ∷ codes "- At the helper's name in a `let`, where it has no result or one of another"
    ∷ codes "  type."
    ∷ codes "- In the list of a section's head: at the first name, where it is not a struct;"
    ∷ codes "  at the second, where the member is not a lock."
    ∷ codes "- At a name of the wrong kind: an array or pool without index, or a section,"
    ∷ codes "  helper, struct or thread, as a value; an index after anything else; a field"
    ∷ codes "  after a top-level name, an int or a lock (at the first name); a declared"
    ∷ codes "  name that is not a struct in a type, a pool in an `init` or a constant, a"
    ∷ codes "  section in a thread's call, or a helper after `call`."
    ∷ [])
places WrongArgumentCount =
    flat_map line
    (codes "At the section's or helper's name in the call, whose arguments are not judged"
    ∷ codes "then."
    ∷ [])
places NotAssignable =
    flat_map line
    (codes "At the start of a left side that is a parameter, a `let`, a final reference, a"
    ∷ codes "whole array, a pool or its member, a section, a helper, a struct or a thread."
    ∷ [])
places NeitherFinalNorProtected = line (codes "At the name of a global, an array or a field without `protected_by`.")
places ProtectedByNoLock =
    flat_map line
    (codes "At the annotation's first name: where its last is a field or final reference;"
    ∷ codes "where that of a global or array, or a field's that begins with no own member,"
    ∷ codes "is not a global lock alone. An undeclared name is `E06`."
    ∷ [])
places ProtectedByPassesNonFinal =
    flat_map line
    (codes "At the first name in an annotation, but the last, that is a member and no"
    ∷ codes "final reference."
    ∷ [])
places UnstableBase =
    flat_map line
    (codes "At the first name of an access to a field under an object's lock, where what"
    ∷ codes "comes before it is not a stable path. At the second name after `where`, where"
    ∷ codes "that is a `var`."
    ∷ [])
places LockOrderCycle =
    flat_map line
    (codes "At a statement that makes the first step of a cycle of lock classes. Two"
    ∷ codes "sections could each hold a lock of the cycle, and wait for the next one for"
    ∷ codes "ever."
    ∷ [])
places LimitExceeded = line (codes "At what is too much, too large or too deep. Limits has the places.")
places FinalWithoutOpeningValue =
    flat_map line
    (codes "At the pool's name, once, where no `init` gives some member a final reference."
    ∷ codes "At the `null` of an `init` of one, which counts as given."
    ∷ [])
places InitOutOfRangeOrRepeated =
    flat_map line
    (codes "At the index of an `init`, or of a constant that names a pool's member, out of"
    ∷ codes "the pool's range (in an expression trap 2). At the word `init` of a second one"
    ∷ codes "for a member's field, however its index is written."
    ∷ [])
places MisplacedReturn =
    flat_map line
    (codes "At a `return` that is not the last statement of a body with a result type. At"
    ∷ codes "the closing brace of such a body without that `return`."
    ∷ [])
places LockAsValue =
    flat_map line
    (codes "At the first name of a lock read or assigned to, `G` or `a.l`; in an `init`,"
    ∷ codes "at the field's name; after `where`, at the first name."
    ∷ [])
places RecursiveHelper =
    flat_map line
    (codes "In a helper, at the called name of each call by which it comes back to itself,"
    ∷ codes "be it through others, even where no section calls it."
    ∷ [])

-- a program with a fault of this code
unfoldable pub program : Code → List ℕ
program BadCharacter =
    flat_map line
    (codes "    lock G;"
    ∷ codes "    global int n protected_by(G);"
    ∷ codes "    atomic f() { n = n & 1; }"
    ∷ [])
program NumberTooLarge =
    flat_map line
    (codes "    lock G;"
    ∷ codes "    global int n protected_by(G) = -9223372036854775808;"
    ∷ [])
program UnexpectedToken =
    flat_map line
    (codes "    lock G;"
    ∷ codes "    global int n protected_by(G);"
    ∷ codes "    atomic f() {"
    ∷ codes "      if (n == 0) { n = 1; } else if (n == 1) { n = 2; }"
    ∷ codes "    }"
    ∷ [])
program NestedTooDeep =
    line (codes "    atomic f() : int { return ((((((((((((((((((((((((((((((((((((((((((((((((((((((((((((((((1)))))))))))))))))))))))))))))))))))))))))))))))))))))))))))))))); }")
program DeclaredTwice =
    flat_map line
    (codes "    lock G;"
    ∷ codes "    global int n protected_by(G);"
    ∷ codes "    atomic f(int k) {"
    ∷ codes "      if (k > 0) { let a: int = 1; n = a; } else { let a: int = 2; n = a; }"
    ∷ codes "    }"
    ∷ [])
program UnknownName =
    flat_map line
    (codes "    struct Account { lock l; int balance protected_by(l); }"
    ∷ codes "    atomic f(ref Account a) { a.balance = a.balnce + 1; }"
    ∷ [])
program WrongType =
    flat_map line
    (codes "    lock G;"
    ∷ codes "    global int n protected_by(G);"
    ∷ codes "    atomic f() { while (n) { n = n - 1; } }"
    ∷ [])
program WrongArgumentCount =
    flat_map line
    (codes "    atomic f(int k) { print k; }"
    ∷ codes "    thread t { f(1, nowhere[2]); }"
    ∷ [])
program NotAssignable = line (codes "    atomic f(int k) { k = k + 1; }")
program NeitherFinalNorProtected =
    flat_map line
    (codes "    lock G;"
    ∷ codes "    global int n;"
    ∷ [])
program ProtectedByNoLock = line (codes "    struct S { lock l; int x protected_by(l); int y protected_by(x); }")
program ProtectedByPassesNonFinal =
    line (codes "    struct S { lock l; ref S next protected_by(l); int x protected_by(next.l); }")
program UnstableBase =
    flat_map line
    (codes "    struct S { lock l; int x protected_by(l); ref S next protected_by(l); }"
    ∷ codes "    pool S p[2];"
    ∷ codes "    atomic f(ref S a) { print a.next.x; }"
    ∷ [])
program LockOrderCycle =
    flat_map line
    (codes "    struct A { lock l; ref B b protected_by(l); int x protected_by(l); }"
    ∷ codes "    struct B { lock m; ref A a protected_by(m); int y protected_by(m); }"
    ∷ codes "    atomic f(ref A r) {"
    ∷ codes "      let s: ref B = r.b;"
    ∷ codes "      s.y = 1;"
    ∷ codes "    }"
    ∷ codes "    atomic g(ref B r) {"
    ∷ codes "      let s: ref A = r.a;"
    ∷ codes "      s.x = 1;"
    ∷ codes "    }"
    ∷ [])
program LimitExceeded = line (codes "    atomic f(int a, int b, int c, int d, int e, int g, int h, int i, int j) { }")
program FinalWithoutOpeningValue =
    flat_map line
    (codes "    struct B { lock l; }"
    ∷ codes "    struct N { final ref B owner; int v protected_by(owner.l); }"
    ∷ codes "    pool B b[1];"
    ∷ codes "    pool N n[2];"
    ∷ codes "    init n[0].owner = b[0];"
    ∷ [])
program InitOutOfRangeOrRepeated =
    flat_map line
    (codes "    struct S { lock l; int x protected_by(l); }"
    ∷ codes "    pool S p[2];"
    ∷ codes "    init p[2].x = 1;"
    ∷ [])
program MisplacedReturn =
    flat_map line
    (codes "    atomic f(int k) : int {"
    ∷ codes "      if (k > 0) { return 1; }"
    ∷ codes "      return 0;"
    ∷ codes "    }"
    ∷ [])
program LockAsValue =
    flat_map line
    (codes "    lock G;"
    ∷ codes "    struct S { lock l; int x protected_by(l); }"
    ∷ codes "    atomic f(ref S a) { print a.x; print a.l; }"
    ∷ [])
program RecursiveHelper =
    flat_map line
    (codes "    lock G;"
    ∷ codes "    global int n protected_by(G);"
    ∷ codes "    call down(int k) {"
    ∷ codes "      if (k > 0) { n = n + k; call down(k - 1); }"
    ∷ codes "    }"
    ∷ codes "    atomic f() { call down(3); }"
    ∷ codes "    thread t { f(); }"
    ∷ [])

-- remedies beside the code's own one, in lines; empty if it has no other
unfoldable pub ways_out : Code → List ℕ
ways_out UnexpectedToken = line (codes "See the list under Grammar.")
ways_out WrongType =
    flat_map line
    (codes "`n != 0` or `r != null`; for a comparison's value `var ok: int = 0; if (n > 3)"
    ∷ codes "{ ok = 1; }`."
    ∷ [])
ways_out NotAssignable = line (codes "For a final reference give another value by `init`, or make it a field.")
ways_out NeitherFinalNorProtected = line (codes "Only a member can be final: `final ref S f;`.")
ways_out UnstableBase =
    flat_map line
    (codes "With `let n: ref S = a.next;` the first is E14, since the locks of `a` and `n`"
    ∷ codes "are of one class, unless `next` is under a global lock. For a walk by a `var`"
    ∷ codes "put the fields under a global lock, whose fields any reference may reach, or"
    ∷ codes "under that of a common owner: Shared owners. Or list the class in the"
    ∷ codes "section's head: Taking a whole class. A `var` after `where` becomes a `let` by"
    ∷ codes "`let o: ref S = v;` before it."
    ∷ [])
ways_out LockOrderCycle =
    flat_map line
    (codes "Ways out has six: all `let`s before all uses, a parameter, a global lock for"
    ∷ codes "the reference, one for all fields, a final reference, the whole class. For"
    ∷ codes "objects with a common owner there is `where`. The `let` that needs a lock of"
    ∷ codes "the second class later is the statement that the line names or comes after it:"
    ∷ codes "if it uses no lock of the first class itself, it may go before that statement;"
    ∷ codes "else it needs another way."
    ∷ [])
ways_out LimitExceeded =
    flat_map line
    (codes "Split a section, or a struct into two that a final reference joins, or use"
    ∷ codes "fewer objects."
    ∷ [])
ways_out FinalWithoutOpeningValue = line (codes "For null take a field `ref B owner protected_by(..)`.")
ways_out RecursiveHelper =
    flat_map line
    (codes "Here `var i: int = k; while (i > 0) { n = n + i; i = i - 1; }`."
    ∷ codes "examples/tree.al keeps a stack."
    ∷ [])
ways_out _ = []

-- ---- the page

-- the first line: the code and its message
abbrev pub heading : Code → List ℕ
heading code = line (code_name code ++ codes " " ++ code_text code)

-- the places of its faults, and a program that has one
abbrev pub meaning : Code → List ℕ
meaning code = line [] ++ places code ++ line [] ++ program code

-- the remedy that `explain` writes, and further ones
abbrev pub remedies : Code → List ℕ
remedies code = line [] ++ remedy_text code ++ ways_out code

-- the last lines, which name the page with more
abbrev pub more : List ℕ
more = line [] ++ line (codes "More: docs/LANGUAGE.md")

-- the page of a code
abbrev pub page_text : Code → List ℕ
page_text code = heading code ++ meaning code ++ remedies code ++ more
