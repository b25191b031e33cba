-- The parts of the C text that are the same in all programs, line by line.
use Rattle.std.specs.Prelude.{ℕ, List, [], ◌∷◌, codes}
use Rattle.std.specs.List.{flat_map}
use Rattle.code.specs.Listing.{line}

-- the types of all programs, and the words that open, close, acquire and release a lock. A reader checks that the words
-- are those of POSIX threads, unless others were set before, that a result is a number of 64 bits, and that the buffer
-- has room for 256 prints, the most that one run of a section can make
unfoldable pub types_text : List ℕ
types_text =
    flat_map line
    (codes "#include <stddef.h>"
    ∷ codes "#include <stdint.h>"
    ∷ codes "#ifdef AL_HISTORY"
    ∷ codes "#include <stdio.h>"
    ∷ codes "#endif"
    ∷ codes "#ifndef AL_MUTEX                /* the kind of lock: replace all five together */"
    ∷ codes "#include <pthread.h>"
    ∷ codes "#define AL_MUTEX pthread_mutex_t"
    ∷ codes "#define AL_MUTEX_OPEN(m) pthread_mutex_init((m), NULL)"
    ∷ codes "#define AL_MUTEX_CLOSE(m) pthread_mutex_destroy(m)"
    ∷ codes "#define AL_LOCK(m) pthread_mutex_lock(m)"
    ∷ codes "#define AL_UNLOCK(m) pthread_mutex_unlock(m)"
    ∷ codes "#endif"
    ∷ codes "#ifndef AL_LINE                 /* each lock begins a cache line; 8 packs them */"
    ∷ codes "#define AL_LINE 64"
    ∷ codes "#endif"
    ∷ codes "#ifndef AL_TYPES"
    ∷ codes "#define AL_TYPES"
    ∷ codes "#ifdef __cplusplus"
    ∷ codes "#define AL_ALIGNED alignas(AL_LINE)"
    ∷ codes "#else"
    ∷ codes "#define AL_ALIGNED _Alignas(AL_LINE)"
    ∷ codes "#endif"
    ∷ codes "/* How a section ended: its trap, or 0; and its result. */"
    ∷ codes "struct autolock_end { int trap; };"
    ∷ codes "struct autolock_int { int trap; int64_t value; };"
    ∷ codes "/* What a section printed. */"
    ∷ codes "struct autolock_prints { int count; int64_t value[256]; };"
    ∷ codes "struct autolock_history;"
    ∷ codes "#endif"
    ∷ [])

-- the declaration for C++ that the names are those of C
unfoldable pub opened_text : List ℕ
opened_text =
    flat_map line
    (codes "#ifdef __cplusplus"
    ∷ codes "extern \"C\" {"
    ∷ codes "#endif"
    ∷ [])

-- the end of that declaration and of the header
unfoldable pub closed_text : List ℕ
closed_text =
    flat_map line
    (codes "#ifdef __cplusplus"
    ∷ codes "}"
    ∷ codes "#endif"
    ∷ codes "#endif"
    ∷ [])

-- sums, differences and products of signed 64-bit numbers. A reader checks that each returns 1 exactly where 64 bits do
-- not hold the result, and otherwise writes it to r, by the compiler's built-ins and by tests that do not overflow;
-- that AL_TRAP sets `trap` and goes to `end`, and the words below it do so where their comments say. The disabled
-- warnings are about divisions after a test of their divisor
unfoldable pub arithmetic_text : List ℕ
arithmetic_text =
    flat_map line
    (codes "#ifndef AL_HELPERS"
    ∷ codes "#define AL_HELPERS"
    ∷ codes "#ifdef __GNUC__"
    ∷ codes "#pragma GCC diagnostic ignored \"-Wtautological-compare\""
    ∷ codes "#pragma GCC diagnostic ignored \"-Wtype-limits\""
    ∷ codes "#pragma GCC diagnostic ignored \"-Wdiv-by-zero\""
    ∷ codes "#ifdef __clang__"
    ∷ codes "#pragma GCC diagnostic ignored \"-Wself-assign\""
    ∷ codes "#endif"
    ∷ codes "#define AL_INLINE static inline __attribute__((unused))"
    ∷ codes "#define AL_RARE(x) __builtin_expect(!!(x), 0)"
    ∷ codes "#else"
    ∷ codes "#define AL_INLINE static inline"
    ∷ codes "#define AL_RARE(x) (x)"
    ∷ codes "#endif"
    ∷ codes "#define AL_TRAP(k) do { trap = (k); goto end; } while (0)"
    ∷ codes "/* Trap k, where p is NULL, and where i is no index below n. */"
    ∷ codes "#define AL_NULL(p, k) if (AL_RARE((p) == NULL)) AL_TRAP(k)"
    ∷ codes "#define AL_OUT(i, n, k) if (AL_RARE((uint64_t)(i) >= (n))) AL_TRAP(k)"
    ∷ codes "/* r is the sum, the difference, the product of a and b, or trap 3, where 64 bits do not hold it. */"
    ∷ codes "#define AL_ADD(r, a, b) if (AL_RARE(autolock_add((a), (b), &(r)))) AL_TRAP(3)"
    ∷ codes "#define AL_SUB(r, a, b) if (AL_RARE(autolock_sub((a), (b), &(r)))) AL_TRAP(3)"
    ∷ codes "#define AL_MUL(r, a, b) if (AL_RARE(autolock_mul((a), (b), &(r)))) AL_TRAP(3)"
    ∷ codes "/* A sum, a difference and a product, by r; 1 where 64 bits do not hold it. */"
    ∷ codes "#if defined(__GNUC__) && !defined(AL_PORTABLE)"
    ∷ codes "AL_INLINE int autolock_add(int64_t a, int64_t b, int64_t *r) { return __builtin_add_overflow(a, b, r); }"
    ∷ codes "AL_INLINE int autolock_sub(int64_t a, int64_t b, int64_t *r) { return __builtin_sub_overflow(a, b, r); }"
    ∷ codes "AL_INLINE int autolock_mul(int64_t a, int64_t b, int64_t *r) { return __builtin_mul_overflow(a, b, r); }"
    ∷ codes "#else"
    ∷ codes "AL_INLINE int autolock_add(int64_t a, int64_t b, int64_t *r)"
    ∷ codes "{"
    ∷ codes "  if (b >= 0 ? a > INT64_MAX - b : a < INT64_MIN - b) return 1;"
    ∷ codes "  *r = a + b;"
    ∷ codes "  return 0;"
    ∷ codes "}"
    ∷ codes "AL_INLINE int autolock_sub(int64_t a, int64_t b, int64_t *r)"
    ∷ codes "{"
    ∷ codes "  if (b >= 0 ? a < INT64_MIN + b : a > INT64_MAX + b) return 1;"
    ∷ codes "  *r = a - b;"
    ∷ codes "  return 0;"
    ∷ codes "}"
    ∷ codes "AL_INLINE int autolock_mul(int64_t a, int64_t b, int64_t *r)"
    ∷ codes "{"
    ∷ codes "  if (a > 0 ? (b > 0 ? a > INT64_MAX / b : b < INT64_MIN / a)"
    ∷ codes "            : (b > 0 ? a < INT64_MIN / b : a != 0 && b < INT64_MAX / a))"
    ∷ codes "    return 1;"
    ∷ codes "  *r = a * b;"
    ∷ codes "  return 0;"
    ∷ codes "}"
    ∷ codes "#endif"
    ∷ [])

-- lists of locks, some of them NULL. A reader checks that AL_ORDER puts two locks in the order of their addresses, and
-- that `autolock_drop` removes from k locks those that are among the p held ones, and all but the last of equal ones.
-- `autolock_order` sorts the locks, and `autolock_lock` acquires each lock that is not NULL
unfoldable pub locking_text : List ℕ
locking_text =
    flat_map line
    (codes "/* Puts the lesser address first. */"
    ∷ codes "#define AL_ORDER(x, y) \\"
    ∷ codes "  do { if ((uintptr_t)(y) < (uintptr_t)(x)) { AL_MUTEX *z_ = (x); (x) = (y); (y) = z_; } } while (0)"
    ∷ codes "/* Of k locks, none is left that is among the p held ones, or that comes again. */"
    ∷ codes "AL_INLINE void autolock_drop(AL_MUTEX **m, int k, AL_MUTEX *const *h, int p)"
    ∷ codes "{"
    ∷ codes "  int i, j;"
    ∷ codes "  for (j = k - 1; j >= 0; j--) {"
    ∷ codes "    for (i = 0; i < p; i++) if (m[j] == h[i]) m[j] = NULL;"
    ∷ codes "    for (i = j + 1; i < k; i++) if (m[j] == m[i]) m[j] = NULL;"
    ∷ codes "  }"
    ∷ codes "}"
    ∷ codes "AL_INLINE void autolock_order(AL_MUTEX **m, int k)"
    ∷ codes "{"
    ∷ codes "  int i, j;"
    ∷ codes "  for (j = k - 2; j >= 0; j--)"
    ∷ codes "    for (i = j; i <= k - 2; i++) AL_ORDER(m[i], m[i + 1]);"
    ∷ codes "}"
    ∷ codes "AL_INLINE void autolock_lock(AL_MUTEX **m, int k)"
    ∷ codes "{"
    ∷ codes "  int i;"
    ∷ codes "  for (i = 0; i < k; i++) if (m[i] != NULL) AL_LOCK(m[i]);"
    ∷ codes "}"
    ∷ [])

-- the start of a program that runs the threads
unfoldable pub runs_text : List ℕ
runs_text =
    flat_map line
    (codes "#ifdef AL_MAIN"
    ∷ codes "#include <pthread.h>"
    ∷ codes "#include <string.h>"
    ∷ codes "struct autolock_call { int section; int64_t a[8]; };"
    ∷ [])
